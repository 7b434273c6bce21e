-- What stands in a form before one stop stands there before another: several values, choices, and one value by itself.
use Rattle.std.proofs.Common.{◌≡◌, ◌<◌, ◌+◌, ℕ, Bool, true, false, List, [], ◌∷◌, ◌++◌, length, Option, Some, None, arith, refl, sym, ◌∙◌, if◌then◌else◌}
use Rattle.form_meanings.specs.Words.{first_passes}
use Rattle.form_meanings.specs.Meaning.{Meaning, spell_all, FitAll, bad_of_all, empty_meaning, opt_meaning, many_meaning, seq_meaning, limited_meaning}
use Rattle.edit_laws.proofs.Moves.{Alike, Blind, Moves, alike_behind, neither, none_of}
use Rattle.edit_laws.proofs.NetRuns.{long_enough}

-- one value of a form stands before one stop as before another, and its numbers are no more invalid there
pub record MovesAt {A : Type 0} (f : Meaning A) (a : A) : Type 0 where
  pub moves : (ws vs : List (List ℕ)) → Alike ws vs → f.Fits a ws → f.Fits a vs
  pub good : (ws vs : List (List ℕ)) → f.bad a ws ≡ None → f.bad a vs ≡ None

-- words are alike that begin with the same ones, whatever stands behind these
behind_some : (us ws vs : List (List ℕ)) → 0 < length us → Alike (us ++ ws) (us ++ vs)
behind_some [] ws vs some = absurd (omega arith)
behind_some (u ∷ us) ws vs some = λ t blind. (refl, refl)

first_same : (t : List ℕ → Bool) (us ws vs : List (List ℕ)) → 0 < length us → first_passes t (us ++ ws) ≡ first_passes t (us ++ vs)
first_same t [] ws vs some = absurd (omega arith)
first_same t (u ∷ us) ws vs some = refl

pub empty_moves : Moves empty_meaning
empty_moves = record { moves = λ a ws vs same fits. fits; good = λ a ws vs none. none }

pub opt_moves : {A : Type 0} (t : List ℕ → Bool) (f : Meaning A) → Blind t → Moves f → Moves (opt_meaning t f)
opt_moves t f blind m = record {
  moves = elim [
    | Some a ↦ λ ws vs same fits. (sym (alike_behind (f.spell a) ws vs same t blind).0 ∙ fits.0, m.moves a ws vs same fits.1)
    | None ↦ λ ws vs same fits. sym (same t blind).0 ∙ fits
  ];
  good = elim [ Some a ↦ m.good a | None ↦ λ ws vs none. none ];
}

left_bad : (b : Bool) (k l : ℕ) → ◌≡◌ {A = Option ℕ} (if b then None else Some k) None → ◌≡◌ {A = Option ℕ} (if b then None else Some l) None
left_bad true k l e = refl
left_bad false k l e = absurd (cc)

pub limited_moves : {A : Type 0} (t : A → Bool) (n : ℕ) (f : Meaning A) → Moves f → Moves (limited_meaning t n f)
limited_moves t n f m = record {
  moves = m.moves;
  good = λ a ws vs none.
      let both = neither (f.bad a ws) (if t a then None else Some (n + length ws)) none in
      none_of (f.bad a vs) (if t a then None else Some (n + length vs)) (m.good a ws vs both.0) (left_bad (t a) (n + length ws) (n + length vs) both.1);
}

-- what a form spells has words
pub record HasWords {A : Type 0} (f : Meaning A) : Type 0 where
  pub some : (a : A) → 0 < length (f.spell a)

-- several values
module _ {A : Type 0} (t : List ℕ → Bool) (f : Meaning A) (has : HasWords f) (m : Moves f) where
  all_move : Blind t → (xs : List A) (ws vs : List (List ℕ)) → Alike ws vs → FitAll t f.spell f.Fits xs ws → FitAll t f.spell f.Fits xs vs
  all_move blind [] ws vs same fits = sym (same t blind).0 ∙ fits
  all_move blind (x ∷ xs) ws vs same fits =
      let later = alike_behind (spell_all f.spell xs) ws vs same in (
        sym (alike_behind (f.spell x) (spell_all f.spell xs ++ ws) (spell_all f.spell xs ++ vs) later t blind).0 ∙ fits.0,
        m.moves x (spell_all f.spell xs ++ ws) (spell_all f.spell xs ++ vs) later fits.1,
        all_move blind xs ws vs same fits.2,
      )

  all_good : (xs : List A) (ws vs : List (List ℕ)) → bad_of_all f.spell f.bad xs ws ≡ None → bad_of_all f.spell f.bad xs vs ≡ None
  all_good [] ws vs none = refl
  all_good (x ∷ xs) ws vs none =
      let both = neither (f.bad x (spell_all f.spell xs ++ ws)) (bad_of_all f.spell f.bad xs ws) none in
      none_of (f.bad x (spell_all f.spell xs ++ vs)) (bad_of_all f.spell f.bad xs vs) (m.good x (spell_all f.spell xs ++ ws) (spell_all f.spell xs ++ vs) both.0) (all_good xs ws vs both.1)

  pub many_moves : Blind t → Moves (many_meaning t f)
  many_moves blind = record { moves = λ xs ws vs same fits. (long_enough f has.some xs vs, all_move blind xs ws vs same fits.1); good = all_good }

  first_behind : (x : A) (us ws vs : List (List ℕ)) → first_passes t (f.spell x ++ (us ++ ws)) ≡ true → first_passes t (f.spell x ++ (us ++ vs)) ≡ true
  first_behind x us ws vs is = sym (first_same t (f.spell x) (us ++ ws) (us ++ vs) (has.some x)) ∙ is

  first_move : (xs : List A) (us ws vs : List (List ℕ)) → 0 < length us → FitAll t f.spell f.Fits xs (us ++ ws) → FitAll t f.spell f.Fits xs (us ++ vs)
  first_move [] us ws vs some fits = sym (first_same t us ws vs some) ∙ fits
  first_move (x ∷ xs) us ws vs some fits =
      let later = alike_behind (spell_all f.spell xs) (us ++ ws) (us ++ vs) (behind_some us ws vs some) in
      let here = fits.0 in (
        first_behind x (spell_all f.spell xs) (us ++ ws) (us ++ vs) here,
        m.moves x (spell_all f.spell xs ++ (us ++ ws)) (spell_all f.spell xs ++ (us ++ vs)) later fits.1,
        first_move xs us ws vs some fits.2,
      )

  -- before words of their own, the test may tell stops
  pub many_before : {B : Type 0} (g : Meaning B) → HasWords g → Moves g → Moves (seq_meaning (many_meaning t f) g)
  many_before g some mg = record {
    moves = λ x ws vs same fits. ((long_enough f has.some x.0 (g.spell x.1 ++ vs), first_move x.0 (g.spell x.1) ws vs (some.some x.1) fits.0.1), mg.moves x.1 ws vs same fits.1);
    good = λ x ws vs none.
        let both = neither (bad_of_all f.spell f.bad x.0 (g.spell x.1 ++ ws)) (g.bad x.1 ws) none in
        none_of (bad_of_all f.spell f.bad x.0 (g.spell x.1 ++ vs)) (g.bad x.1 vs) (all_good x.0 (g.spell x.1 ++ ws) (g.spell x.1 ++ vs) both.0) (mg.good x.1 ws vs both.1);
  }
