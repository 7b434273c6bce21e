-- A whole text, as a loop over its statements reads it.
use Rattle.std.proofs.Common.{◌≡◌, ℕ, ◌<◌, ◌≤◌, true, false, nat_lt, List, [], ◌∷◌, ◌++◌, length, refl, sym, ap, ◌∙◌, arith, append_assoc, Some, None, Result, Ok, Err}
use Rattle.std.proofs.lemmas.Bool.Decides.{nat_tests}
use Rattle.std.proofs.lemmas.List.{append-nil}
use Rattle.design_model.specs.declared.TheConstants.{MAX_TEXT}
use Rattle.design_model.specs.declared.fault.Fault.{Fault}
use Rattle.design_model.specs.declared.fault.FaultCode.{FaultCode}
use Rattle.design_model.specs.declared.fault.FaultCode.TheVariants.{TooLong}
use Rattle.statement_model.specs.Tokens.{Token, Lexed, left_from, tokens}
use Rattle.statement_model.specs.Boundaries.{statement_at}
use Rattle.statement_model.specs.Folds.{◌>>◌}
use Rattle.statement_model.specs.Grammar.{Key, Grammar}
use Rattle.statement_model.specs.Reading.{read_at, read_from, read_text, repeats, with_key, fault_at, pos_of}
use Rattle.statement_reader.proofs.Steps.{faults_stop, repeats_stop, reading_goes_on, reading_ends}

-- records before those of what is left
abbrev pub with_front : {R : Type 0} → List R → Result (List R) Fault → Result (List R) Fault
with_front front r = r >> λ recs. Ok (front ++ recs)

no_front : {R : Type 0} (r : Result (List R) Fault) → r ≡ with_front [] r
no_front (Ok recs) = refl
no_front (Err f) = refl

one_front : {R : Type 0} (front : List R) (rec : R) (r : Result (List R) Fault) → with_front front (r >> λ recs. Ok (rec ∷ recs)) ≡ with_front (front ++ rec ∷ []) r
one_front {R = R} front rec (Ok recs) = ap (λ (z : List R). Ok z) (sym (append_assoc front (rec ∷ []) recs))
one_front front rec (Err f) = refl

-- A text reads as these records, and then as what is left from a position on, where the next statement stands in m and
-- these keys stood before.
pub record SoFar {M R : Type 0} (g : Grammar M R) (start : M) (text : List ℕ) (front : List R) (m : M) (seen : List Key) (pos : ℕ) : Type 0 where
  pub reads : read_text g start text ≡ with_front front (read_from g (m, seen) (left_from text pos))

module _ {M R : Type 0} (g : Grammar M R) (start : M) (text : List ℕ) where
  pub too_long : MAX_TEXT < length text → read_text g start text ≡ Err (fault_at TooLong 0)
  unfolding read_text
  too_long h = let long : nat_lt MAX_TEXT (length text) ≡ true = grind (arith, nat_tests) in rw long refl

  pub so_far_start : length text ≤ MAX_TEXT → SoFar g start text [] start [] 0
  unfolding read_text
  so_far_start h =
      let fits : nat_lt MAX_TEXT (length text) ≡ false = grind (arith, nat_tests) in
      record { reads = rw fits (no_front (read_from g (start, []) (tokens text))) }

  module _ (front : List R) (m : M) (seen : List Key) (pos : ℕ) (so_far : SoFar g start text front m seen pos) where
    pub so_far_fault : (f : Fault) → read_at g m (left_from text pos) ≡ Err f → read_text g start text ≡ Err f
    so_far_fault f read = so_far.reads ∙ ap (with_front front) (faults_stop g m seen (left_from text pos) f read)

    pub so_far_repeats : (after : M) (left : Lexed) (ps : List Token) (rec : R) (code : FaultCode)
        → statement_at (g.ending m) (left_from text pos) ≡ Ok (Some (ps, left))
        → read_at g m (left_from text pos) ≡ Ok (Some (rec, after, left))
        → repeats seen (g.key rec) ≡ Some code
        → read_text g start text ≡ Err (fault_at code (pos_of ps))
    so_far_repeats after left ps rec code at read again = so_far.reads ∙ ap (with_front front) (repeats_stop g m after seen (left_from text pos) left ps rec code at read again)

    pub so_far_on : (after : M) (end : ℕ) (rec : R) → read_at g m (left_from text pos) ≡ Ok (Some (rec, after, left_from text end)) → repeats seen (g.key rec) ≡ None
        → SoFar g start text (front ++ rec ∷ []) after (with_key (g.key rec) seen) end
    so_far_on after end rec read fresh =
        let later = read_from g (after, with_key (g.key rec) seen) (left_from text end) in
        record { reads = so_far.reads ∙ ap (with_front front) (reading_goes_on g m after seen (left_from text pos) (left_from text end) rec read fresh) ∙ one_front front rec later }

    module _ (n : ℕ) (end : (left_from text pos).end ≡ Ok n) (none : read_at g m (left_from text pos) ≡ Ok None) where
      pub so_far_ends : g.lacks seen ≡ None → read_text g start text ≡ Ok front
      so_far_ends complete =
          so_far.reads ∙ ap (with_front front) (reading_ends g m seen (left_from text pos) n end none) ∙ rw complete (ap (λ (z : List R). Ok z) (append-nil front))

      pub so_far_lacks : (code : FaultCode) → g.lacks seen ≡ Some code → read_text g start text ≡ Err (fault_at code n)
      so_far_lacks code lack = so_far.reads ∙ ap (with_front front) (reading_ends g m seen (left_from text pos) n end none) ∙ rw lack refl
