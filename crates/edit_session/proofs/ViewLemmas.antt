-- Entries lent with their places.
use Rattle.std.proofs.Common.{◌≡◌, ℕ, List, refl, ap, ◌∙◌, Some, Result, Ok, Err}
use Rattle.std.specs.Prelude.{IsOk}
use Rattle.design_model.specs.declared.fault.Fault.{Fault}
use Rattle.design_model.specs.declared.mode.Mode.{Mode}
use Rattle.design_model.specs.declared.mode.Mode.TheVariants.{In}
use Rattle.design_model.specs.declared.mode.Section.{Section}
use Rattle.statement_model.specs.Tokens.{Token, Lexed, left_from}
use Rattle.statement_model.specs.Reading.{read_at}
use Rattle.def_grammar.specs.Records.{Entry, Record, def, entry, read_def}
use Rattle.def_grammar.specs.Located.{located, bytes_of, entry_at}
use Rattle.edit_laws.specs.AloneLaws.{EntriesStandAlone}
use Rattle.edit_session.specs.Sessions.{IsAlone, SaysAlone}

pub its_design : (r : Result (List Record) Fault) → IsOk r → (design : List Record) × (r ≡ Ok design)
its_design (Ok design) is = (design, refl)
its_design (Err f) is = absurd (cc)

module _ (law : EntriesStandAlone) (text : List ℕ) (s : Section) (name : List ℕ) (design : List Record) (x : List Token × Record)
    (reads : read_def text ≡ Ok design)
    (found : entry_at s name (located text design) ≡ Some x) where
  pub alone : IsAlone s (bytes_of text x.0)
  alone =
      let l = law text design s name x.0 x.1 reads found in
      (l.1, (l.0, l.3 ∙ ap (λ (r : Record). let z : Record × Mode × Lexed = (r, In s, l.0) in Ok (Some z)) l.2))

  pub says : (e : Entry) → SaysAlone s (bytes_of text x.0) e → x.1 ≡ entry e
  says e own =
      let l = law text design s name x.0 x.1 reads found in
      let a : Record × Mode × Lexed = (x.1, In s, l.0) in
      let b : Record × Mode × Lexed = (entry e, In s, own.0) in
      let here : read_at def (In s) (left_from (bytes_of text x.0) 0) ≡ Ok (Some a) = l.3 in
      let same : a ≡ b = cc in
      ap (λ (z : Record × Mode × Lexed). z.0) same
