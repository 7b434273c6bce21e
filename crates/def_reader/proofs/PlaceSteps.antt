-- Where the statement after an entry stands: in the section of that entry.
use Rattle.std.proofs.Common.{◌≡◌, ℕ, true, List, refl, sym, ap, ◌∙◌, Some, Ok}
use Rattle.std.specs.Str.{bytes_eq}
use Rattle.std.proofs.lemmas.Bool.{and_parts}
use Rattle.std.proofs.lemmas.Slice.Eq.{bytes_eq-Decides}
use Rattle.design_model.specs.declared.mode.Mode.{Mode}
use Rattle.design_model.specs.declared.mode.Mode.TheVariants.{In}
use Rattle.design_model.specs.declared.mode.Section.{Section}
use Rattle.design_model.specs.declared.mode.Section.TheVariants.{Components}
use Rattle.design_model.specs.EnumWords.{section_word, sections}
use Rattle.form_meanings.specs.Meaning.{find}
use Rattle.form_meanings.specs.Words.{start}
use Rattle.form_meanings.proofs.Steps.{some_same}
use Rattle.statement_model.specs.Tokens.{Lexed}
use Rattle.statement_model.specs.Boundaries.{words}
use Rattle.statement_model.specs.Form.{read, whole}
use Rattle.statement_model.specs.Reading.{read_at}
use Rattle.statement_reader.proofs.Steps.{form_read, has_statement}
use Rattle.def_grammar.specs.Records.{def, Record, top, in_properties, end_section, entry, entry_of, section_of, name_of, statement, mode_after}
use Rattle.def_grammar.specs.Located.{is_entry, is_named}
use Rattle.def_reader.proofs.SectionSteps.{StandsIn, form_whole, read_whole, stands}

-- a section is found by its word
found_by_word : (s : Section) → find section_word sections (section_word s) ≡ Some s
unfolding section_word
found_by_word Components = refl
found_by_word _ = refl

-- so no two have the same
same_section : (s t : Section) → section_word s ≡ section_word t → s ≡ t
same_section s t e = some_same s t (sym (found_by_word s) ∙ (ap (find section_word sections) e ∙ found_by_word t))

stays_in : (m : Mode) (s : Section) (name : List ℕ) (rec : Record) → StandsIn m rec → is_entry s name (entry_of rec) ≡ true → mode_after m rec ≡ In s
stays_in m s name (top t) at is = absurd (cc)
stays_in m s name (in_properties p) at is = absurd (cc)
stays_in m s name (end_section t) at is = absurd (cc)
stays_in m s name (entry e) at is =
    let both = and_parts (bytes_eq (section_word (section_of e)) (section_word s)) (is_named name (name_of e)) is in
    at ∙ ap In (same_section (section_of e) s ((bytes_eq-Decides (section_word (section_of e)) (section_word s)).0 both.0))

pub after_entry : (m after : Mode) (l left : Lexed) (rec : Record) (s : Section) (name : List ℕ) → read_at def m l ≡ Ok (Some (rec, after, left)) → is_entry s name (entry_of rec) ≡ true → after ≡ In s
after_entry m after l left rec s name reads is =
    let found = has_statement def m after l left rec reads in
    let ps = found.0 in
    let form = form_whole m ps (whole (statement m) (words ps)) (rec, after) (form_read def m after l left ps rec found.1 reads) in
    let r = read_whole (read (statement m) (start (words ps))) (rec, form.0) form.1 in
    form.2 ∙ stays_in m s name rec (stands m rec (start (words ps)) r.0 r.1) is
