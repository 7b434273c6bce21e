-- Texts that read.
use Rattle.std.proofs.Common.{◌≡◌, ℕ, ◌≤◌, ◌+◌, ◌-◌, true, false, nat_lt, List, ◌++◌, length, take, drop, Result, Ok, Err, IsOk, refl, ap, arith, ⊎_elim}
use Rattle.std.specs.Prelude.{nat_le}
use Rattle.std.proofs.lemmas.Bool.{cases_Bool}
use Rattle.std.proofs.lemmas.Bool.Decides.{nat_tests}
use Rattle.std.proofs.lemmas.List.{length-append, length-drop, length-take-le}
use Rattle.design_model.specs.declared.TheConstants.{MAX_TEXT}
use Rattle.design_model.specs.declared.fault.Fault.{Fault}
use Rattle.statement_model.specs.Cuts.{Cut, with_cuts}
use Rattle.statement_model.specs.Reading.{read_text}
use Rattle.def_grammar.specs.Records.{Record, read_def}
use Rattle.lef_grammar.specs.Library.{Library}
use Rattle.edit_model.specs.declared.edit.EditRefusal.TheVariants.{Unreadable}
use Rattle.edit_rules.specs.Edits.{Change, is_long}
use Rattle.edit_rules.specs.Runs.{Makes, if_it_reads, new_text, text_outcome}
use Rattle.edit_laws.specs.EditLaws.{EditsAreApplied, EditsKeepTheRest}
use Rattle.text_pieces.specs.declared.prepared.PrepareError.{PrepareError}
use Rattle.text_pieces.specs.declared.prepared.PrepareError.TheVariants as errors
use Rattle.text_pieces.specs.declared.prepared.PrepareError.TheVariants.{Memory, Range, TooLong}
use Rattle.design_text.specs.Editing.{KeepsTheRest, MakesCuts, ReadsEdited}

pub is_read : (r : Result (List Record) Fault) (design : List Record) → r ≡ Ok design → IsOk r
is_read (Ok d) design e = refl
is_read (Err f) design e = absurd (cc)

-- a text that reads isn't too long
pub read_fits : (text : List ℕ) → IsOk (read_def text) → length text ≤ MAX_TEXT
unfolding read_text
read_fits text reads = ⊎_elim
    (λ (long : nat_lt MAX_TEXT (length text) ≡ true). let e = rw long at reads in absurd (cc))
    (λ (short : nat_lt MAX_TEXT (length text) ≡ false). grind (arith, nat_tests))
    (cases_Bool (nat_lt MAX_TEXT (length text)))

-- the text of an edit that is accepted reads as the edited design
pub made_applied : EditsAreApplied → (library : Library) (text : List ℕ) (change : Change) (cuts : List Cut) → Makes library text change (Ok cuts) → ReadsEdited text change (with_cuts cuts text)
made_applied applied_so library text change cuts (design, reads, made) = (design, reads, applied_so library text design change cuts reads made)

-- and keeps the bytes around its cuts
pub made_keeps : EditsKeepTheRest → (library : Library) (text : List ℕ) (change : Change) (cuts : List Cut) → Makes library text change (Ok cuts) → KeepsTheRest library text change (with_cuts cuts text)
made_keeps keeps_so library text change cuts (design, reads, made) = (cuts, (design, reads, made), refl, keeps_so library text design change cuts reads made)

if_reads : (new : List ℕ) (r : Result (List Record) Fault) → IsOk r → if_it_reads new r ≡ Ok new
if_reads new (Ok design) is = refl
if_reads new (Err f) is = absurd (cc)

module _ (text : List ℕ) (a b : ℕ) (put : List ℕ) (order : a ≤ b) (within : b ≤ length text) where
  -- how long the text is after bytes took the place of those from a up to b
  long_is : length (new_text text a b put) ≡ (length text - (b - a)) + length put
  long_is =
      let front = length-take-le (a - 0) text (omega (arith, order, within)) in
      let behind = length-drop b text in
      let both = length-append put (drop b text) in
      let all = length-append (take (a - 0) text) (put ++ drop b text) in
      omega (arith, order, within, front, behind, both, all)

  pub is_short : nat_le ((length text - (b - a)) + length put) MAX_TEXT ≡ true → is_long (new_text text a b put) ≡ false
  is_short fits = let e = long_is in grind (arith, nat_tests, fits, e)

  pub outcome_is : is_long (new_text text a b put) ≡ false → IsOk (read_def (new_text text a b put)) → text_outcome text a b put ≡ Ok (new_text text a b put)
  outcome_is short reads =
      let low : nat_le a b ≡ true = grind (arith, nat_tests) in
      let high : nat_le b (length text) ≡ true = grind (arith, nat_tests) in
      rw (low, high, short) (if_reads (new_text text a b put) (read_def (new_text text a b put)) reads)

  pub spliced_is : take a text ++ (put ++ drop b text) ≡ new_text text a b put
  spliced_is = ap (λ (n : ℕ). take n text ++ (put ++ drop b text)) (let e : a ≡ a - 0 = omega arith in e)

  pub refused_is : is_long (new_text text a b put) ≡ false → (f : Fault) → read_def (new_text text a b put) ≡ Err f → text_outcome text a b put ≡ Err (Unreadable f)
  refused_is short f reads =
      let low : nat_le a b ≡ true = grind (arith, nat_tests) in
      let high : nat_le b (length text) ≡ true = grind (arith, nat_tests) in
      rw (low, high, short, reads) refl

-- a text with a fault doesn't read
pub has_fault : (text : List ℕ) (f : Fault) → read_def text ≡ Err f → IsOk (read_def text) → ⊥
has_fault text f fault reads = let e = rw fault at reads in absurd (cc)

-- what isn't made leaves the text
pub not_made : (T : Type 0) (old new : List ℕ) (cuts : List Cut) (e : PrepareError) → MakesCuts {T = T} old cuts (Err e) new → new ≡ old
not_made T old new cuts Range h = h.0
not_made T old new cuts TooLong h = h.0
not_made T old new cuts errors.Fault h = h.0
not_made T old new cuts Memory h = h
