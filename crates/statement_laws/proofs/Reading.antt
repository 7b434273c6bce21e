-- The laws of reading tokens, and then more.
use Rattle.std.proofs.Common.{◌≡◌, ℕ, true, false, List, [], ◌∷◌, ◌++◌, Result, Ok, Err, refl, sym, ap, ◌∙◌, ⊎_elim, append-nil}
use Rattle.std.proofs.lemmas.Bool.{cases_Bool as cases}
use Rattle.design_model.specs.declared.fault.Fault.{Fault}
use Rattle.statement_model.specs.Tokens.{Token}
use Rattle.statement_model.specs.Boundaries.{is_whole, statements}
use Rattle.statement_model.specs.Folds.{◌>>◌, all_from}
use Rattle.statement_model.specs.Grammar.{Key, Grammar}
use Rattle.statement_model.specs.Reading.{read_one, at_last, read_on}
use Rattle.statement_laws.specs.ReadingLaws.{read_statements, ReadingGoesOn, ReadingJoins, RecordsJoin, StatementsBySteps, ReadingBySteps}
use Rattle.statement_laws.proofs.Folds.{bind_ok, bind_bind, folds_join}

module _ {M R : Type 0} (g : Grammar M R) where
  -- the records of whole statements, the state after them, and what is left over
  abbrev Whole : Type 0
  Whole = Result (List R × (M × List Key) × List Token) Fault

  module _ (rest : M × List Key → List Token → Result (List R) Fault) where
    -- what comes after whole statements
    abbrev goes_on : List R × (M × List Key) × List Token → Result (List R) Fault
    goes_on x = rest x.1 x.2 >> λ later. Ok (x.0 ++ later)

    one_before_rest : (rec : R) (recs : List R) (r : Result (List R) Fault) → ((r >> λ later. Ok (recs ++ later)) >> λ all. Ok (rec ∷ all)) ≡ (r >> λ later. Ok (rec ∷ recs ++ later))
    one_before_rest rec recs (Ok later) = refl
    one_before_rest rec recs (Err f) = refl

    one_before : (rec : R) (r : Whole) → ((r >> goes_on) >> λ all. Ok (rec ∷ all)) ≡ ((r >> λ y. Ok (rec ∷ y.0, y.1, y.2)) >> goes_on)
    one_before rec (Ok y) = one_before_rest rec y.0 (rest y.1 y.2)
    one_before rec (Err f) = refl

    -- one statement, and then the rest of its text
    one_then : (r : Result (R × (M × List Key)) Fault) (later : M × List Key → Whole) (all : M × List Key → Result (List R) Fault)
        → ((state : M × List Key) → all state ≡ (later state >> goes_on))
        → (r >> λ x. (all x.1 >> λ recs. Ok (x.0 ∷ recs))) ≡ ((r >> λ x. (later x.1 >> λ y. Ok (x.0 ∷ y.0, y.1, y.2))) >> goes_on)
    one_then (Ok x) later all same = ap (λ (r : Result (List R) Fault). r >> λ recs. Ok (x.0 ∷ recs)) (same x.1) ∙ one_before x.0 (later x.1)
    one_then (Err f) later all same = refl

  pub reading_goes_on : ReadingGoesOn g
  unfolding read_on read_statements
  reading_goes_on state begun [] qs end = sym (bind_ok (read_on g state begun qs end))
  reading_goes_on state begun (p ∷ ps) qs end = ⊎_elim
      (λ whole. rw whole (one_then (λ after left. read_on g after left qs end) (read_one g state (begun ++ p ∷ [])) (λ after. read_statements g after [] ps) (λ after. read_on g after [] (ps ++ qs) end) (λ after. reading_goes_on after [] ps qs end)))
      (λ more. rw more (reading_goes_on state (begun ++ p ∷ []) ps qs end))
      (cases (is_whole (g.ending state.0) (begun ++ p ∷ [])))

  pub reading_joins : ReadingJoins g
  reading_joins state after ps recs l reads =
      reading_goes_on state [] ps l.pieces l.end ∙ ap (λ (r : Whole). r >> λ x. (read_on g x.1 x.2 l.pieces l.end >> λ later. Ok (x.0 ++ later))) reads

  pub records_join : RecordsJoin g
  records_join = folds_join (read_one g)

  -- records and the state after them, with what is left over
  abbrev with_left : List Token → List R × (M × List Key) → Whole
  with_left left x = Ok (x.0, x.1, left)

  abbrev one_more : R → List R × (M × List Key) → Result (List R × (M × List Key)) Fault
  one_more rec x = Ok (rec ∷ x.0, x.1)

  abbrev one_more_whole : R → List R × (M × List Key) × List Token → Whole
  one_more_whole rec x = Ok (rec ∷ x.0, x.1, x.2)

  -- one statement, and then those after it
  one_by_one : (left : List Token) (r : Result (R × (M × List Key)) Fault) (later : M × List Key → Whole) (steps : M × List Key → Result (List R × (M × List Key)) Fault)
      → ((state : M × List Key) → later state ≡ (steps state >> with_left left))
      → (r >> λ x. (later x.1 >> one_more_whole x.0)) ≡ ((r >> λ x. (steps x.1 >> one_more x.0)) >> with_left left)
  one_by_one left (Ok x) later steps same =
      ap (λ (r : Whole). r >> one_more_whole x.0) (same x.1)
      ∙ (bind_bind (steps x.1) (with_left left) (one_more_whole x.0) ∙ sym (bind_bind (steps x.1) (one_more x.0) (with_left left)))
  one_by_one left (Err f) later steps same = refl

  pub statements_by_steps : StatementsBySteps g
  unfolding read_statements statements all_from
  statements_by_steps ending ends state begun [] = refl
  statements_by_steps ending ends state begun (p ∷ ps) = rw (ends state.0) (⊎_elim
      (λ (whole : is_whole ending (begun ++ p ∷ []) ≡ true).
      let later = statements ending [] ps in
      rw whole (one_by_one later.1 (read_one g state (begun ++ p ∷ [])) (λ after. read_statements g after [] ps) (λ after. all_from (read_one g) after later.0) (λ after. statements_by_steps ending ends after [] ps)))
      (λ (more : is_whole ending (begun ++ p ∷ []) ≡ false). rw more (statements_by_steps ending ends state (begun ++ p ∷ []) ps))
      (cases (is_whole ending (begun ++ p ∷ []))))

  -- the records of tokens, from those of their statements
  read_whole : (state : M × List Key) (begun ps : List Token) (end : Result ℕ Fault)
      → read_on g state begun ps end ≡ (read_statements g state begun ps >> λ x. (at_last g x.1 x.2 end >> λ later. Ok (x.0 ++ later)))
  unfolding read_on
  read_whole state begun ps end = ap (λ (qs : List Token). read_on g state begun qs end) (sym (append-nil ps)) ∙ reading_goes_on state begun ps [] end

  pub reading_by_steps : ReadingBySteps g
  reading_by_steps ending ends state begun ps end =
      let s = statements ending begun ps in
      read_whole state begun ps end
      ∙ (ap (λ (r : Whole). r >> λ x. (at_last g x.1 x.2 end >> λ later. Ok (x.0 ++ later))) (statements_by_steps ending ends state begun ps)
      ∙ bind_bind (all_from (read_one g) state s.0) (with_left s.1) (λ x. (at_last g x.1 x.2 end >> λ later. Ok (x.0 ++ later))))
