-- Values that are spelled one after the other, of which some are taken out and others put there.
use Rattle.std.proofs.Common.{◌≡◌, ◌≤◌, ◌<◌, ℕ, suc, Bool, true, false, not, List, [], ◌∷◌, ◌++◌, length, take_while, drop, None, arith, refl, sym, ap, subst, ◌∙◌, ⊎_elim, append_assoc, length-append}
use Rattle.std.specs.List.{list_all, list_any}
use Rattle.std.proofs.lemmas.Bool.{cases_Bool as cases, or_parts, and_parts}
use Rattle.std.proofs.lemmas.List.Folds.{list_any-append}
use Rattle.std.proofs.lemmas.List.Sums.{take_while-cons}
use Rattle.form_meanings.specs.Meaning.{Meaning, spell_all, FitAll, bad_of_all}
use Rattle.form_meanings.specs.Words.{first_passes}
use Rattle.edit_laws.proofs.Moves.{neither, none_of}

module _ {A : Type 0} (f : Meaning A) where
  -- each of these values fits before the words of those behind it and then these
  abbrev pub AllFit : List A → List (List ℕ) → Type 0
  AllFit [] ws = Unit {0}
  AllFit (a ∷ all) ws = f.Fits a (spell_all f.spell all ++ ws) × AllFit all ws

  abbrev pub AllGood : List A → List (List ℕ) → Type 0
  AllGood all ws = bad_of_all f.spell f.bad all ws ≡ None

  pub spelled_append : (xs ys : List A) → spell_all f.spell (xs ++ ys) ≡ spell_all f.spell xs ++ spell_all f.spell ys
  spelled_append [] ys = refl
  spelled_append (x ∷ xs) ys = ap (λ (ws : List (List ℕ)). f.spell x ++ ws) (spelled_append xs ys) ∙ sym (append_assoc (f.spell x) (spell_all f.spell xs) (spell_all f.spell ys))

  pub spelled_before : (xs ys : List A) (ws : List (List ℕ)) → spell_all f.spell (xs ++ ys) ++ ws ≡ spell_all f.spell xs ++ (spell_all f.spell ys ++ ws)
  spelled_before xs ys ws = ap (λ (us : List (List ℕ)). us ++ ws) (spelled_append xs ys) ∙ append_assoc (spell_all f.spell xs) (spell_all f.spell ys) ws

  pub fit_parts : (xs ys : List A) (ws : List (List ℕ)) → AllFit (xs ++ ys) ws → AllFit xs (spell_all f.spell ys ++ ws) × AllFit ys ws
  fit_parts [] ys ws fits = (tt, fits)
  fit_parts (x ∷ xs) ys ws fits =
      let later = fit_parts xs ys ws fits.1 in
      ((subst (λ (us : List (List ℕ)). f.Fits x us) (spelled_before xs ys ws) fits.0, later.0), later.1)

  pub fit_from : (xs ys : List A) (ws : List (List ℕ)) → AllFit xs (spell_all f.spell ys ++ ws) → AllFit ys ws → AllFit (xs ++ ys) ws
  fit_from [] ys ws first later = later
  fit_from (x ∷ xs) ys ws first later = (subst (λ (us : List (List ℕ)). f.Fits x us) (sym (spelled_before xs ys ws)) first.0, fit_from xs ys ws first.1 later)

  pub good_parts : (xs ys : List A) (ws : List (List ℕ)) → AllGood (xs ++ ys) ws → AllGood xs (spell_all f.spell ys ++ ws) × AllGood ys ws
  good_parts [] ys ws good = (refl, good)
  good_parts (x ∷ xs) ys ws good =
      let both = neither (f.bad x (spell_all f.spell (xs ++ ys) ++ ws)) (bad_of_all f.spell f.bad (xs ++ ys) ws) good in
      let later = good_parts xs ys ws both.1 in
      let here = subst (λ (us : List (List ℕ)). f.bad x us ≡ None) (spelled_before xs ys ws) both.0 in
      (none_of (f.bad x (spell_all f.spell xs ++ (spell_all f.spell ys ++ ws))) (bad_of_all f.spell f.bad xs (spell_all f.spell ys ++ ws)) here later.0, later.1)

  pub good_from : (xs ys : List A) (ws : List (List ℕ)) → AllGood xs (spell_all f.spell ys ++ ws) → AllGood ys ws → AllGood (xs ++ ys) ws
  good_from [] ys ws first later = later
  good_from (x ∷ xs) ys ws first later =
      let both = neither (f.bad x (spell_all f.spell xs ++ (spell_all f.spell ys ++ ws))) (bad_of_all f.spell f.bad xs (spell_all f.spell ys ++ ws)) first in
      let here = subst (λ (us : List (List ℕ)). f.bad x us ≡ None) (sym (spelled_before xs ys ws)) both.0 in
      none_of (f.bad x (spell_all f.spell (xs ++ ys) ++ ws)) (bad_of_all f.spell f.bad (xs ++ ys) ws) here (good_from xs ys ws both.1 later)

  -- so they fit as many
  module _ (t : List ℕ → Bool) where
    pub each_fits : (xs : List A) (ws : List (List ℕ)) → FitAll t f.spell f.Fits xs ws → AllFit xs ws
    each_fits [] ws fits = tt
    each_fits (x ∷ xs) ws fits = (fits.1, each_fits xs ws fits.2)

    pub then_stops : (xs : List A) (ws : List (List ℕ)) → FitAll t f.spell f.Fits xs ws → first_passes t ws ≡ false
    then_stops [] ws fits = fits
    then_stops (x ∷ xs) ws fits = then_stops xs ws fits.2

    module _ (leads : (a : A) (ws : List (List ℕ)) → first_passes t (f.spell a ++ ws) ≡ true) where
      pub all_fit : (xs : List A) (ws : List (List ℕ)) → first_passes t ws ≡ false → AllFit xs ws → FitAll t f.spell f.Fits xs ws
      all_fit [] ws stops fits = stops
      all_fit (x ∷ xs) ws stops fits = (leads x (spell_all f.spell xs ++ ws), fits.0, all_fit xs ws stops fits.1)

  -- a value has words
  module _ (long : (a : A) → 0 < length (f.spell a)) where
    all_long : (xs : List A) → length xs ≤ length (spell_all f.spell xs)
    all_long [] = omega arith
    all_long (x ∷ xs) = let later = all_long xs in let here = long x in omega (arith, later, here, length-append (f.spell x) (spell_all f.spell xs))

    pub long_enough : (xs : List A) (ws : List (List ℕ)) → length xs ≤ length (spell_all f.spell xs ++ ws)
    long_enough xs ws = omega (arith, all_long xs, length-append (spell_all f.spell xs) ws)

-- the first elements that pass a test, and the others
module _ {A : Type 0} (t : A → Bool) where
  passing_first : (x : A) (xs : List A) → t x ≡ true → take_while t (x ∷ xs) ≡ x ∷ take_while t xs
  passing_first x xs is = take_while-cons t x xs ∙ rw is refl

  failing_first : (x : A) (xs : List A) → t x ≡ false → take_while t (x ∷ xs) ≡ []
  failing_first x xs is = take_while-cons t x xs ∙ rw is refl

  abbrev left_after : List A → List A → List A
  left_after first xs = drop (length first) xs

  pub two_parts : (xs : List A) → take_while t xs ++ drop (length (take_while t xs)) xs ≡ xs
  two_parts [] = refl
  two_parts (x ∷ xs) = ⊎_elim
      (λ (is : t x ≡ true). ap (λ (first : List A). first ++ drop (length first) (x ∷ xs)) (passing_first x xs is) ∙ ap (λ (all : List A). x ∷ all) (two_parts xs))
      (λ (no : t x ≡ false). ap (λ (first : List A). first ++ drop (length first) (x ∷ xs)) (failing_first x xs no))
      (cases (t x))

  pub all_pass : (xs : List A) → list_all t (take_while t xs) ≡ true
  all_pass [] = refl
  all_pass (x ∷ xs) = ⊎_elim
      (λ (is : t x ≡ true). ap (list_all t) (passing_first x xs is) ∙ rw is (all_pass xs))
      (λ (no : t x ≡ false). ap (list_all t) (failing_first x xs no))
      (cases (t x))

-- an element that passes, with those before the first such, and those behind it
pub record HasFirst {A : Type 0} (t : A → Bool) (xs : List A) (before : List A) : Type 0 where
  pub at : A
  pub from : drop (length before) xs ≡ at ∷ drop (suc (length before)) xs
  pub passes : t at ≡ true

module _ {A : Type 0} (t : A → Bool) where
  abbrev others_first : List A → List A
  others_first xs = take_while (λ x. not (t x)) xs

  one_later : (x : A) (xs before : List A) → HasFirst t xs before → HasFirst t (x ∷ xs) (x ∷ before)
  one_later x xs before has = record { at = has.at; from = has.from; passes = has.passes }

  pub has_first : (xs : List A) → list_any t xs ≡ true → HasFirst t xs (others_first xs)
  has_first [] any = absurd (cc)
  has_first (x ∷ xs) any = ⊎_elim
      (λ (is : t x ≡ true).
      let none = failing_first (λ y. not (t y)) x xs (ap not is) in
      subst (λ (before : List A). HasFirst t (x ∷ xs) before) (sym none) (record { at = x; from = refl; passes = is }))
      (λ (no : t x ≡ false).
      let more = passing_first (λ y. not (t y)) x xs (ap not no) in
      let later : list_any t xs ≡ true = rw no at any in
      subst (λ (before : List A). HasFirst t (x ∷ xs) before) (sym more) (one_later x xs (others_first xs) (has_first xs later)))
      (cases (t x))

-- a test that no element of several lists passes
pub none_in : {A : Type 0} (t : A → Bool) (xs ys : List A) → list_any t (xs ++ ys) ≡ false → (list_any t xs ≡ false) × (list_any t ys ≡ false)
none_in t xs ys none = or_parts (list_any t xs) (list_any t ys) (sym (list_any-append t xs ys) ∙ none)

-- where each passes one test, none passes another that excludes it
pub none_passes : {A : Type 0} (t u : A → Bool) → ((x : A) → t x ≡ true → u x ≡ false) → (xs : List A) → list_all t xs ≡ true → list_any u xs ≡ false
none_passes t u excludes [] all = refl
none_passes t u excludes (x ∷ xs) all =
    let parts = and_parts (t x) (list_all t xs) all in
    rw (excludes x parts.0) (none_passes t u excludes xs parts.1)
