-- The entry that is found by its section and its name.
use Rattle.std.proofs.Common.{◌≡◌, ℕ, true, false, List, [], ◌∷◌, Some, refl, sym, ap, ◌∙◌, ⊎_elim}
use Rattle.std.specs.Str.{bytes_eq}
use Rattle.std.proofs.lemmas.Bool.{cases_Bool as cases, and_parts}
use Rattle.std.proofs.lemmas.Slice.Eq.{bytes_eq-Decides}
use Rattle.design_model.specs.declared.mode.Section.{Section}
use Rattle.design_model.specs.declared.mode.Section.TheVariants.{Components}
use Rattle.design_model.specs.EnumWords.{section_word, sections}
use Rattle.form_meanings.specs.Meaning.{find}
use Rattle.form_meanings.proofs.Steps.{some_same}
use Rattle.statement_model.specs.Tokens.{Token}
use Rattle.def_grammar.specs.Records.{Entry, section_of, name_of, Record, top, in_properties, end_section, entry, entry_of}
use Rattle.def_grammar.specs.Located.{is_named, is_entry, entry_at}
use Rattle.edit_laws.specs.StatementLaws.{StandsAmong}

-- a section is found by its word
pub found_by_word : (s : Section) → find section_word sections (section_word s) ≡ Some s
unfolding section_word
found_by_word Components = refl
found_by_word _ = refl

-- so no two have the same
pub same_section : (s t : Section) → section_word s ≡ section_word t → s ≡ t
same_section s t e = some_same s t (sym (found_by_word s) ∙ (ap (find section_word sections) e ∙ found_by_word t))

-- a record is an entry of this section
pub record IsEntryOf (s : Section) (rec : Record) : Type 0 where
  pub e : Entry
  pub says : rec ≡ entry e
  pub section : section_of e ≡ s

is_entry_of : (s : Section) (name : List ℕ) (rec : Record) → is_entry s name (entry_of rec) ≡ true → IsEntryOf s rec
is_entry_of s name (top t) is = absurd (cc)
is_entry_of s name (in_properties p) is = absurd (cc)
is_entry_of s name (end_section t) is = absurd (cc)
is_entry_of s name (entry e) is =
    let both = and_parts (bytes_eq (section_word (section_of e)) (section_word s)) (is_named name (name_of e)) is in
    let same = same_section (section_of e) s ((bytes_eq-Decides (section_word (section_of e)) (section_word s)).0 both.0) in
    record { e = e; says = refl; section = same }

-- an entry of this section stands among statements with their records
pub record IsFound (s : Section) (all : List (List Token × Record)) (x : List Token × Record) : Type 0 where
  pub e : Entry
  pub says : x.1 ≡ entry e
  pub section : section_of e ≡ s
  pub stands : StandsAmong all x.0 (entry e)

found_here : (s : Section) (x : List Token × Record) (xs : List (List Token × Record)) → IsEntryOf s x.1 → IsFound s (x ∷ xs) x
found_here s x xs is = record {
  e = is.e;
  says = is.says;
  section = is.section;
  stands = record { first = []; others = xs; all_are = ap (λ (rec : Record). (x.0, rec) ∷ xs) is.says };
}

found_later : (s : Section) (x y : List Token × Record) (xs : List (List Token × Record)) → IsFound s xs y → IsFound s (x ∷ xs) y
found_later s x y xs f =
    let st = f.stands in
    record {
      e = f.e;
      says = f.says;
      section = f.section;
      stands = record { first = x ∷ st.first; others = st.others; all_are = ap (λ (l : List (List Token × Record)). x ∷ l) st.all_are };
    }

pub entry_found : (s : Section) (name : List ℕ) (all : List (List Token × Record)) (y : List Token × Record) → entry_at s name all ≡ Some y → IsFound s all y
entry_found s name [] y e = absurd (cc)
entry_found s name (x ∷ xs) y e = ⊎_elim
    (λ (here : is_entry s name (entry_of x.1) ≡ true).
    let h = rw here at e in
    let same : x ≡ y = some_same x y h in
    rw (← same) (found_here s x xs (is_entry_of s name x.1 here)))
    (λ (other : is_entry s name (entry_of x.1) ≡ false).
    let h = rw other at e in
    found_later s x y xs (entry_found s name xs y h))
    (cases (is_entry s name (entry_of x.1)))
