-- The records of a text come one after the other.
use Rattle.std.proofs.Common.{◌≡◌, ℕ, false, List, [], ◌∷◌, length, nat_lt, refl, sym, ap, ◌∙◌, subst, inl, inr, Option, Some, None, Result, Ok, Err}
use Rattle.std.proofs.lemmas.Bool.{cases_Bool}
use Rattle.design_model.specs.declared.TheConstants.{MAX_TEXT}
use Rattle.design_model.specs.declared.fault.Fault.{Fault}
use Rattle.statement_model.specs.Tokens.{Lexed, tokens}
use Rattle.statement_model.specs.Reading.{read_at, read_from, read_text}
use Rattle.statement_reader.specs.ReadingLaws.{BeginsWith, RecordsAreRead}
use Rattle.lef_grammar.specs.LefRecords.{Block, outermost, LefRecord, lef, with_first_fault, with_fault}
use Rattle.lef_reader.specs.Events.{Events, Give, RecordsAreGiven, after_next, next_record, left_after, record_of}

head_same : (a b : LefRecord) (rs ss : List LefRecord) → a ∷ rs ≡ b ∷ ss → a ≡ b
head_same a b rs ss h = cc

tail_same : (a b : LefRecord) (rs ss : List LefRecord) → a ∷ rs ≡ b ∷ ss → rs ≡ ss
tail_same a b rs ss h = cc

module _ (law : RecordsAreRead lef) (text : List ℕ) (fits : nat_lt MAX_TEXT (length text) ≡ false) where
  abbrev left_at : Block → Lexed → Events
  left_at b l = record { text = text; block = b; left = l }

  next_is : (b : Block) (l : Lexed) (r : Result (Option (LefRecord × Block × Lexed)) Fault) → read_at lef b l ≡ r
      → (next_record (left_at b l) ≡ record_of (with_first_fault b l r)) × (after_next (left_at b l) ≡ left_after (left_at b l) (with_first_fault b l r))
  next_is b l r is = (rw (fits, is) refl, rw (fits, is) refl)

  ends : (b : Block) (l : Lexed) (r : Result (Option (LefRecord × Block × Lexed)) Fault) → read_at lef b l ≡ r → BeginsWith lef [] [] r → Give [] (Ok None) (left_at b l)
  ends b l (Ok None) is h = (next_is b l (Ok None) is).0
  ends b l (Ok (Some x)) is h = let same = h.1 in absurd (cc)
  ends b l (Err f) is h = absurd h

  goes_on : (b : Block) (l : Lexed) (rec : LefRecord) (rs : List LefRecord) (later : (b : Block) (l : Lexed) → read_from lef (b, []) l ≡ Ok rs → Give rs (Ok None) (left_at b l))
      (r : Result (Option (LefRecord × Block × Lexed)) Fault) → read_at lef b l ≡ r → BeginsWith lef [] (rec ∷ rs) r → Give (rec ∷ rs) (Ok None) (left_at b l)
  goes_on b l rec rs later (Ok None) is h = absurd (cc)
  goes_on b l rec rs later (Ok (Some x)) is h =
      let n = next_is b l (Ok (Some x)) is in
      let more : read_from lef (x.1, []) x.2 ≡ Ok rs = h.3 ∙ ap (λ (z : List LefRecord). Ok z) (sym (tail_same rec x.0 rs h.0 h.1)) in
      (n.0 ∙ ap (λ (z : LefRecord). Ok (Some z)) (sym (head_same rec x.0 rs h.0 h.1)), subst (Give rs (Ok None)) (sym n.1) (later x.1 x.2 more))
  goes_on b l rec rs later (Err f) is h = absurd h

  given : (recs : List LefRecord) (b : Block) (l : Lexed) → read_from lef (b, []) l ≡ Ok recs → Give recs (Ok None) (left_at b l)
  given [] b l h = ends b l (read_at lef b l) refl (law b [] l [] h)
  given (rec ∷ rs) b l h = goes_on b l rec rs (given rs) (read_at lef b l) refl (law b [] l (rec ∷ rs) h)

  pub all_given : (recs : List LefRecord) → read_from lef (outermost, []) (tokens text) ≡ Ok recs → Give recs (Ok None) (record { text = text; block = outermost; left = tokens text })
  all_given recs h = given recs outermost (tokens text) h

records_of : (l : Lexed) (recs : List LefRecord) (r : Result (List LefRecord) Fault) → with_fault l r ≡ Ok recs → r ≡ Ok recs
records_of l recs (Ok rs) h = h
records_of l recs (Err f) h = absurd (cc)

pub records_are_given : RecordsAreRead lef → RecordsAreGiven
unfolding read_text
records_are_given law text recs h = elim (cases_Bool (nat_lt MAX_TEXT (length text))) [
  | inl long ↦ let k = rw long at h in absurd (cc)
  | inr fits ↦
      let k = rw fits at h in
      all_given law text fits recs (records_of (tokens text) recs (read_from lef (outermost, []) (tokens text)) k)
]
