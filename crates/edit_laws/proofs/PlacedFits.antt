-- A component that fits its form does so with another clause that places it.
use Rattle.std.proofs.Common.{◌≡◌, ◌≤◌, ℕ, true, false, ℤ, List, [], ◌∷◌, ◌++◌, length, Option, Some, None, arith, refl, sym, ap, subst, codes, append-nil, length-append}
use Rattle.std.specs.Prelude.{nat_abs}
use Rattle.std.specs.Fmt.{signed_decimal}
use Rattle.std.proofs.lemmas.Bool.{or_right}
use Rattle.std.proofs.lemmas.Int.{ints}
use Rattle.std.proofs.lemmas.List.Elements.{All-nil}
use Rattle.design_model.specs.declared.geometry.Orient.{Orient}
use Rattle.design_model.specs.declared.geometry.Orient.TheVariants.{N, W, S, E, FN, FS, FW, FE}
use Rattle.design_model.specs.EnumWords.{orient_word, orients, status_word, statuses}
use Rattle.form_meanings.specs.Words.{is_plus, is_stop, is_empty, first_passes}
use Rattle.form_meanings.specs.Meaning.{find, spell_all, first_or_end, FitAll, bad_of_all}
use Rattle.statement_model.specs.Form.{spell, Fits}
use Rattle.def_grammar.specs.Numbers.{passes, is_int}
use Rattle.def_grammar.specs.Parts.{as_point, point, orient}
use Rattle.def_grammar.specs.Components.{is_status, Clause, unplaced, placement, clause, Component, component_form}
use Rattle.def_grammar.specs.Placing.{placing, before_placing, after_placing, with_placing}
use Rattle.edit_rules.specs.ComponentEdits.{placement_at, is_out}
use Rattle.splicing_laws.specs.WordLaws.{PrintedNumbersAreWords, PrintedNumbersAreRead}
use Rattle.edit_laws.specs.PlacingLaws.{PlacedComponentsFit}
use Rattle.edit_laws.proofs.Moves.{Alike, Moves, word_moves, number_moves, one_of_moves, upto_moves, behind_moves, before_moves, closed_moves, seq_moves, alt_moves, seen_moves, neither, none_of, others_behind, fit_behind, others_good, good_behind}
use Rattle.edit_laws.proofs.PlacingClauses.{around, placed_last}

point_moves : Moves point.of
unfolding point
point_moves = seen_moves as_point _ (behind_moves _ _ (seq_moves _ _ (number_moves _) (before_moves _ _ (number_moves _))))

placement_moves : Moves placement.of
unfolding placement orient
placement_moves = seq_moves _ _ (one_of_moves status_word statuses) (seq_moves _ _ point_moves (one_of_moves orient_word orients))

clause_moves : Moves clause.of
unfolding clause status_word
clause_moves =
    behind_moves _ _ (alt_moves is_status _ _ refl (closed_moves _ _ refl placement_moves) (alt_moves _ _ _ refl (behind_moves _ _ (upto_moves _ refl)) (
    alt_moves _ _ _ refl (behind_moves _ _ (closed_moves _ _ refl (word_moves _))) (seq_moves _ _ (word_moves _) (upto_moves _ refl)))))

-- what stands after the clauses of an entry
abbrev end : List (List ℕ)
end = codes ";" ∷ []

abbrev ClausesFit : List Clause → Type 0
ClausesFit cs = FitAll is_plus (spell clause) (Fits clause) cs end

abbrev ClausesGood : List Clause → Type 0
ClausesGood cs = bad_of_all (spell clause) clause.of.bad cs end ≡ None

clause_leads : (c : Clause) (ws : List (List ℕ)) → first_passes is_plus (spell clause c ++ ws) ≡ true
unfolding clause
clause_leads c ws = refl

clauses_stop : (cs : List Clause) → first_passes is_stop (spell_all (spell clause) cs ++ end) ≡ true
unfolding clause
clauses_stop [] = refl
clauses_stop (c ∷ cs) = refl

clauses_alike : (c d : Clause) (cs ds : List Clause) → Alike (spell_all (spell clause) (c ∷ cs) ++ end) (spell_all (spell clause) (d ∷ ds) ++ end)
unfolding clause
clauses_alike c d cs ds = λ t blind. (refl, refl)

end_alike : (d : Clause) → Alike (spell_all (spell clause) [] ++ end) (spell_all (spell clause) (d ∷ []) ++ end)
unfolding clause
end_alike d = λ t blind. (sym blind, sym blind)

-- what stands before clauses and their ; ends there
rest_stops : (cs : List Clause) → first_or_end is_stop ((spell_all (spell clause) cs ++ end) ++ []) ≡ true
unfolding clause
rest_stops [] = refl
rest_stops (c ∷ cs) = refl

-- a clause has words
clauses_are_long : (cs : List Clause) → length cs ≤ length (spell_all (spell clause) cs)
unfolding clause
clauses_are_long [] = omega arith
clauses_are_long (c ∷ cs) = let later = clauses_are_long cs in omega (arith, later, length-append (spell clause c) (spell_all (spell clause) cs))

orient_found : (o : Orient) → find orient_word orients (orient_word o) ≡ Some o
unfolding orient_word
orient_found N = refl
orient_found W = refl
orient_found S = refl
orient_found E = refl
orient_found FN = refl
orient_found FS = refl
orient_found FW = refl
orient_found FE = refl

-- a clause that stands in its form before what ends it, without an invalid number
pub record IsGood (new : Clause) : Type 0 where
  pub fits : (ws : List (List ℕ)) → first_passes is_stop ws ≡ true → Fits clause new ws
  pub good : (ws : List (List ℕ)) → clause.of.bad new ws ≡ None

-- in the place of the clause that places a component, or last
module _ (new : Clause) (is_good : IsGood new) where
  new_fits : (behind : List Clause) → ClausesFit behind → ClausesFit (new ∷ behind)
  new_fits behind fits = (clause_leads new (spell_all (spell clause) behind ++ end), is_good.fits (spell_all (spell clause) behind ++ end) (clauses_stop behind), fits)

  clauses_fit : (cs : List Clause) (old : Option Clause) → placing cs ≡ old → ClausesFit cs → ClausesFit (with_placing new cs)
  clauses_fit cs None none fits =
      let all = subst (λ (ds : List Clause). ClausesFit ds) (sym (append-nil cs)) fits in
      subst (λ (ds : List Clause). ClausesFit ds) (sym (placed_last new cs none))
      (others_behind is_plus clause.of clause_moves clause_leads cs [] (new ∷ []) end (end_alike new) all (new_fits [] refl))
  clauses_fit cs (Some old) is fits =
      let before = before_placing cs in
      let after = after_placing cs in
      let all = subst (λ (ds : List Clause). ClausesFit ds) (around cs old is) fits in
      let rest = fit_behind is_plus clause.of clause_moves before (old ∷ after) end all in
      others_behind is_plus clause.of clause_moves clause_leads before (old ∷ after) (new ∷ after) end (clauses_alike old new after after) all (new_fits after rest.2)

  new_good : (behind : List Clause) → ClausesGood behind → ClausesGood (new ∷ behind)
  new_good behind good = none_of (clause.of.bad new (spell_all (spell clause) behind ++ end)) (bad_of_all (spell clause) clause.of.bad behind end) (is_good.good (spell_all (spell clause) behind ++ end)) good

  clauses_good : (cs : List Clause) (old : Option Clause) → placing cs ≡ old → ClausesGood cs → ClausesGood (with_placing new cs)
  clauses_good cs None none good =
      let all = subst (λ (ds : List Clause). ClausesGood ds) (sym (append-nil cs)) good in
      subst (λ (ds : List Clause). ClausesGood ds) (sym (placed_last new cs none)) (others_good is_plus clause.of clause_moves cs [] (new ∷ []) end all (new_good [] refl))
  clauses_good cs (Some old) is good =
      let before = before_placing cs in
      let after = after_placing cs in
      let all = subst (λ (ds : List Clause). ClausesGood ds) (around cs old is) good in
      let rest = good_behind is_plus clause.of clause_moves before (old ∷ after) end all in
      let both = neither (clause.of.bad old (spell_all (spell clause) after ++ end)) (bad_of_all (spell clause) clause.of.bad after end) rest in
      others_good is_plus clause.of clause_moves before (old ∷ after) (new ∷ after) end all (new_good after both.1)

  pub component_fits : (c : Component) → Fits component_form c [] → component_form.of.bad c [] ≡ None
      → Fits component_form (record c { clauses = with_placing new c.clauses }) [] × (component_form.of.bad (record c { clauses = with_placing new c.clauses }) [] ≡ None)
  unfolding component_form
  component_fits c fits good =
      let cs = with_placing new c.clauses in
      let long : length cs ≤ length (spell_all (spell clause) cs ++ end) = omega (arith, clauses_are_long cs, length-append (spell_all (spell clause) cs) end) in
      let clauses = clauses_fit c.clauses (placing c.clauses) refl fits.1.1.1.1 in
      ((fits.0, (fits.1.0, ((fits.1.1.0.0, rest_stops cs), (long, clauses)))), clauses_good c.clauses (placing c.clauses) refl good)

pub unplaced_is_good : IsGood (unplaced [])
unfolding clause status_word
unplaced_is_good = record {
  fits = λ ws stop. (refl, (refl, (All-nil (λ (v : List ℕ). is_stop v ≡ false), or_right (is_empty ws) (first_passes is_stop ws) stop)));
  good = λ ws. refl;
}

module _ (words_so : PrintedNumbersAreWords) (read_so : PrintedNumbersAreRead) where
  pub number_is_int : (z : ℤ) → is_out z ≡ false → is_int (signed_decimal z) ≡ true
  unfolding is_int
  number_is_int z inside =
      let small : nat_abs z ≤ 2147483647 = grind (arith, ints, inside) in
      ap (passes (λ n. true)) (read_so z small)

  module _ (x y : ℤ) (o : Orient) where
    placement_fits : (ws : List (List ℕ)) → first_passes is_stop ws ≡ true → Fits clause (placement_at x y o) ws
    unfolding clause placement point orient status_word
    placement_fits ws stop = (refl, (stop, (refl, (((words_so x).1, (words_so y).1), orient_found o))))

    placement_good : is_out x ≡ false → is_out y ≡ false → (ws : List (List ℕ)) → clause.of.bad (placement_at x y o) ws ≡ None
    unfolding clause placement point orient
    placement_good x_in y_in ws = rw (number_is_int x x_in, number_is_int y y_in) refl

  pub placed_components_fit : PlacedComponentsFit
  placed_components_fit c x y o x_in y_in fits good =
      component_fits (placement_at x y o) (record { fits = placement_fits x y o; good = placement_good x y o x_in y_in }) c fits good
