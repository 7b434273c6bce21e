-- Reading without keys, and what they decide.
use Rattle.std.proofs.Common.{◌≡◌, ℕ, List, [], ◌∷◌, map, Option, Some, None, Result, Ok, Err, refl, sym, ap, ◌∙◌}
use Rattle.design_model.specs.declared.fault.Fault.{Fault}
use Rattle.design_model.specs.declared.fault.FaultCode.{FaultCode}
use Rattle.statement_model.specs.Tokens.{Token, Lexed}
use Rattle.statement_model.specs.Boundaries.{statement_at}
use Rattle.statement_model.specs.Folds.{◌>>◌}
use Rattle.statement_model.specs.Grammar.{Key, Grammar}
use Rattle.statement_model.specs.Reading.{read_found, read_at, read_from, ended, with_key}
use Rattle.statement_reader.specs.ReadingLaws.{BeginsWith}
use Rattle.statement_reader.proofs.Steps.{reading_goes_on, reading_ends, records_are_read}
use Rattle.piece_laws.specs.Pieces.{keyless}
use Rattle.piece_laws.specs.KeyLaws.{AreFresh, keys_after, KeysAreApart, KeysDecide}
use Rattle.piece_laws.proofs.Tails.{none_left}

module _ {M R : Type 0} (g : Grammar M R) where
  same_found : (m : M) (l : Lexed) (r : Result (Option (List Token × Lexed)) Fault) → read_found (keyless g) m l r ≡ read_found g m l r
  same_found m l (Err f) = refl
  same_found m l (Ok None) = refl
  same_found m l (Ok (Some x)) = refl

  pub same_read : (m : M) (l : Lexed) → read_at (keyless g) m l ≡ read_at g m l
  unfolding read_at
  same_read m l = same_found m l (statement_at (g.ending m) l)

  abbrev EndsWell : Lexed → Type 0
  EndsWell l = (n : ℕ) × (l.end ≡ Ok n)

  none_ends : (m : M) (l : Lexed) → read_at g m l ≡ Ok None → EndsWell l
  none_ends m l h = let none = none_left g m l h in (none.0, ap (λ (k : Lexed). k.end) none.1)

  lacks_none : (m : M) (seen : List Key) (n : ℕ) (lack : Option FaultCode) (recs : List R) → ended g (m, seen) n lack ≡ Ok recs → lack ≡ None
  lacks_none m seen n None recs h = refl
  lacks_none m seen n (Some code) recs h = absurd (cc)

  abbrev Parted : M → List Key → Lexed → List R → Type 0
  Parted m seen l recs = (read_from (keyless g) (m, []) l ≡ Ok recs) × AreFresh seen (map g.key recs) × (g.lacks (keys_after seen (map g.key recs)) ≡ None)

  one_more : (rec : R) (recs : List R) (r : Result (List R) Fault) → r ≡ Ok recs → (r >> λ rest. Ok (rec ∷ rest)) ≡ Ok (rec ∷ recs)
  one_more rec recs r h = rw h refl

  part_end : (m : M) (seen : List Key) (l : Lexed) (recs : List R) → read_from g (m, seen) l ≡ Ok recs → read_at g m l ≡ Ok None → recs ≡ [] → Parted m seen l recs
  part_end m seen l recs h none empty =
      let end = none_ends m l none in
      let lack = lacks_none m seen end.0 (g.lacks seen) recs (sym (reading_ends g m seen l end.0 end.1 none) ∙ h) in
      rw empty (reading_ends (keyless g) m [] l end.0 end.1 (same_read m l ∙ none), tt, lack)

  abbrev Later : List R → Type 0
  Later recs = (m : M) (seen : List Key) (l : Lexed) → read_from g (m, seen) l ≡ Ok recs → Parted m seen l recs

  part_none : (m : M) (seen : List Key) (l : Lexed) (r : Result (Option (R × M × Lexed)) Fault) → read_from g (m, seen) l ≡ Ok [] → read_at g m l ≡ r → BeginsWith g seen [] r → Parted m seen l []
  part_none m seen l (Err f) h read begins = absurd begins
  part_none m seen l (Ok None) h read begins = part_end m seen l [] h read refl
  part_none m seen l (Ok (Some x)) h read begins = let no_record = begins.1 in absurd (cc)

  part_more : (m : M) (seen : List Key) (l : Lexed) (rec : R) (recs : List R) (r : Result (Option (R × M × Lexed)) Fault) → Later recs → read_at g m l ≡ r → BeginsWith g seen (rec ∷ recs) r → Parted m seen l (rec ∷ recs)
  part_more m seen l rec recs (Err f) parts read begins = absurd begins
  part_more m seen l rec recs (Ok None) parts read begins = absurd (cc)
  part_more m seen l rec recs (Ok (Some x)) parts read begins =
      let both = begins.1 in
      let first : rec ≡ x.0 = cc in
      let rest : recs ≡ begins.0 = cc in
      let later = parts x.1 (with_key (g.key x.0) seen) x.2 (rw rest begins.3) in
      let there : read_at (keyless g) m l ≡ Ok (Some (x.0, x.1, x.2)) = same_read m l ∙ read in
      rw first (
        reading_goes_on (keyless g) m x.1 [] l x.2 x.0 there refl ∙ one_more x.0 recs (read_from (keyless g) (x.1, []) x.2) later.0,
        (begins.2, later.1),
        later.2,
      )

  pub keys_are_apart : KeysAreApart g
  keys_are_apart m seen l [] h = part_none m seen l (read_at g m l) h refl (records_are_read g m seen l [] h)
  keys_are_apart m seen l (rec ∷ recs) h = part_more m seen l rec recs (read_at g m l) (λ n keys k. keys_are_apart n keys k recs) refl (records_are_read g m seen l (rec ∷ recs) h)

  -- and the other way round
  abbrev Whole : List R → Type 0
  Whole recs = (m : M) (seen : List Key) (l : Lexed) → read_from (keyless g) (m, []) l ≡ Ok recs → AreFresh seen (map g.key recs) → g.lacks (keys_after seen (map g.key recs)) ≡ None → read_from g (m, seen) l ≡ Ok recs

  whole_none : (m : M) (seen : List Key) (l : Lexed) (r : Result (Option (R × M × Lexed)) Fault) → read_at (keyless g) m l ≡ r → BeginsWith (keyless g) [] [] r → g.lacks seen ≡ None → read_from g (m, seen) l ≡ Ok []
  whole_none m seen l (Err f) read begins lack = absurd begins
  whole_none m seen l (Ok None) read begins lack =
      let none = sym (same_read m l) ∙ read in
      let end = none_ends m l none in
      reading_ends g m seen l end.0 end.1 none ∙ rw lack refl
  whole_none m seen l (Ok (Some x)) read begins lack = let no_record = begins.1 in absurd (cc)

  whole_more : (m : M) (seen : List Key) (l : Lexed) (rec : R) (recs : List R) (r : Result (Option (R × M × Lexed)) Fault) → Whole recs → read_at (keyless g) m l ≡ r → BeginsWith (keyless g) [] (rec ∷ recs) r
      → AreFresh seen (map g.key (rec ∷ recs)) → g.lacks (keys_after seen (map g.key (rec ∷ recs))) ≡ None → read_from g (m, seen) l ≡ Ok (rec ∷ recs)
  whole_more m seen l rec recs (Err f) wholes read begins fresh lack = absurd begins
  whole_more m seen l rec recs (Ok None) wholes read begins fresh lack = absurd (cc)
  whole_more m seen l rec recs (Ok (Some x)) wholes read begins fresh lack =
      let both = begins.1 in
      let first : rec ≡ x.0 = cc in
      let rest : recs ≡ begins.0 = cc in
      let there : read_at g m l ≡ Ok (Some (rec, x.1, x.2)) = rw first (sym (same_read m l) ∙ read) in
      let later = wholes x.1 (with_key (g.key rec) seen) x.2 (rw rest begins.3) fresh.1 lack in
      reading_goes_on g m x.1 seen l x.2 rec there fresh.0 ∙ one_more rec recs (read_from g (x.1, with_key (g.key rec) seen) x.2) later

  pub keys_decide : KeysDecide g
  keys_decide m seen l [] h fresh lack = whole_none m seen l (read_at (keyless g) m l) refl (records_are_read (keyless g) m [] l [] h) lack
  keys_decide m seen l (rec ∷ recs) h fresh lack = whole_more m seen l rec recs (read_at (keyless g) m l) (λ n keys k. keys_decide n keys k recs) refl (records_are_read (keyless g) m [] l (rec ∷ recs) h) fresh lack
