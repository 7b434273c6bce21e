-- Entries of a text that reads, and what is said by the words of one.
use Rattle.std.proofs.Common.{◌≡◌, ◌<◌, ℕ, List, [], ◌∷◌, ◌++◌, length, Some, None, Ok, arith, refl, sym, ap, subst, ◌∙◌}
use Rattle.design_model.specs.declared.mode.Mode.{Mode}
use Rattle.design_model.specs.declared.mode.Mode.TheVariants.{In}
use Rattle.design_model.specs.declared.mode.Section.{Section}
use Rattle.statement_model.specs.Tokens.{Token, lex, tokens, left_from}
use Rattle.statement_model.specs.Boundaries.{words, statements}
use Rattle.statement_model.specs.Folds.{all_from}
use Rattle.statement_model.specs.Form.{whole}
use Rattle.statement_model.specs.Reading.{read_form, read_one}
use Rattle.def_grammar.specs.Records.{Entry, section_of, Record, entry, statement, mode_after, def_ending, def}
use Rattle.edit_laws.specs.EntryLaws.{IsWritten, EntriesAreWritten}
use Rattle.edit_laws.specs.StatementLaws.{forms, AreSaid}
use Rattle.edit_laws.proofs.EntryForms.{entry_read, entry_reads}
use Rattle.edit_laws.proofs.SaidStatements.{to_reading}
use Rattle.edit_laws.proofs.SameWords.{HasForm, has_form, form_reads, reads_one, one_reads}
use Rattle.edit_laws.proofs.StandingStatements.{stands}

pub entries_are_written : EntriesAreWritten
entries_are_written text from state recs ps e reads s =
    let st = stands def def_ending (λ m. refl) state (left_from text from) recs s.first ps (entry e) s.others reads s.all_are in
    let one = reads_one def st.at ps (entry e, st.after) st.one_read in
    (entry_read ps e st.at.0 st.after.0 (form_reads def st.at.0 ps (entry e) st.after.0 one.form)).says

-- a text with tokens isn't empty
pub tokens_need_text : (text : List ℕ) (front ps behind : List Token) → (tokens text).pieces ≡ front ++ (ps ++ behind) → 0 < length ps → 0 < length text
unfolding lex
tokens_need_text (b ∷ bs) front ps behind e some = omega arith
tokens_need_text [] (p ∷ front) ps behind e some = absurd (cc)
tokens_need_text [] [] (p ∷ ps) behind e some = absurd (cc)
tokens_need_text [] [] [] behind e some = absurd (omega arith)

-- words that are one statement of a record in its form are said of it
pub one_is_said : (m : Mode) (ws : List (List ℕ)) (rec : Record) → ((qs : List Token) → words qs ≡ ws → statements def_ending [] qs ≡ (qs ∷ [], [])) → whole (statement m) ws ≡ Some (rec, None)
    → AreSaid m ws (rec ∷ []) (mode_after m rec)
unfolding all_from
one_is_said m ws rec cut form = λ qs same.
    let after = mode_after m rec in
    let has : HasForm forms m qs rec after = record { form = ap (whole (statement m)) same ∙ form; next = refl } in
    let one : read_one forms (m, []) qs ≡ Ok (rec, (after, [])) = one_reads forms (m, []) (after, []) qs rec (record { form = has; fresh = refl; seen = refl }) in
    to_reading m after qs (rec ∷ []) (record { each = qs ∷ []; cut = cut qs same; read = rw one refl })

-- words that an entry is written with are said of it in its section
pub written_is_said : (ws : List (List ℕ)) (e : Entry) → IsWritten ws e → AreSaid (In (section_of e)) ws (entry e ∷ []) (In (section_of e))
unfolding all_from
written_is_said ws e is = λ qs same.
    let m = In (section_of e) in
    let reads = entry_reads qs e (subst (λ (vs : List (List ℕ)). IsWritten vs e) (sym same) is) in
    let x : Record × Mode = (entry e, m) in
    let was = has_form def m qs x reads.1 in
    let form : HasForm forms m qs (entry e) m = record { form = was.form; next = was.next } in
    let one : read_one forms (m, []) qs ≡ Ok (entry e, (m, [])) = one_reads forms (m, []) (m, []) qs (entry e) (record { form = form; fresh = refl; seen = refl }) in
    to_reading m m qs (entry e ∷ []) (record { each = qs ∷ []; cut = reads.0; read = rw one refl })

-- so they are where another entry of the section was read
pub written_instead : (ps : List Token) (e said : Entry) (ws : List (List ℕ)) → section_of said ≡ section_of e → IsWritten ws said → (m after : Mode) → read_form def m ps ≡ Ok (entry e, after) → AreSaid m ws (entry said ∷ []) after
written_instead ps e said ws section is m after reads =
    let was = entry_read ps e m after reads in
    let here : In (section_of said) ≡ m = ap (λ (s : Section). In s) section ∙ sym was.mode in
    let now = subst (λ (k : Mode). AreSaid k ws (entry said ∷ []) k) here (written_is_said ws said is) in
    subst (λ (k : Mode). AreSaid m ws (entry said ∷ []) k) (sym was.same) now
