-- Parts that are read, or spelled, are no more than their words.
use Rattle.std.proofs.Common.{◌≡◌, ◌≤◌, ◌+◌, ℕ, zero, suc, Bool, true, false, cond, List, [], ◌∷◌, length, map, filter, sum, refl, ap, ◌∙◌, arith, length-append, Option, Some, None, if◌then◌else◌}
use Rattle.std.proofs.lemmas.List.Sums.{sum_by-cons}
use Rattle.form_meanings.specs.Words.{Rest, next_passes}
use Rattle.form_meanings.specs.Meaning.{items, item_then, spell_all}
use Rattle.statement_model.specs.Form.{Form, read, spell}

pub sum_cons : {X : Type 0} (f : X → ℕ) (x : X) (xs : List X) → sum (map f (x ∷ xs)) ≡ f x + sum (map f xs)
sum_cons f x xs = sum_by-cons (λ (n : ℕ). n) (f x) (map f xs)

few_kept : {X : Type 0} (b : Bool) (x : X) (xs : List X) (n : ℕ) → length xs ≤ n → length (cond b (x ∷ xs) xs) ≤ suc n
few_kept true x xs n few = omega (arith, few)
few_kept false x xs n few = omega (arith, few)

few_passing : {X : Type 0} (p : X → Bool) (xs : List X) → length (filter p xs) ≤ sum (map (λ (x : X). 1) xs)
few_passing p [] = omega arith
few_passing {X} p (x ∷ xs) =
    let k : length (filter p (x ∷ xs)) ≤ suc (sum (map (λ (y : X). 1) xs)) = few_kept (p x) x (filter p xs) (sum (map (λ (y : X). 1) xs)) (few_passing p xs) in
    rw (sum_cons (λ (y : X). 1) x xs) (omega (arith, k))

module _ {A : Type 0} (form : Form A) (f : A → ℕ) (light : (a : A) → f a ≤ length (spell form a)) where
  pub few_spelled : (all : List A) → sum (map f all) ≤ length (spell_all (spell form) all)
  few_spelled [] = omega arith
  few_spelled (a ∷ all) =
      let one = light a in
      let others = few_spelled all in
      rw (sum_cons f a all, length-append (spell form a) (spell_all (spell form) all)) (omega (arith, one, others))

  few_if : (b : Bool) (all : List A) (n : ℕ) → sum (map f all) ≤ n → sum (map f (if b then all else [])) ≤ n
  few_if true all n few = few
  few_if false all n few = omega arith

  few_then : (r : Rest) (o : Option (A × Rest)) (later : Rest → List A) → read form r ≡ o → ((l : Rest) → sum (map f (later l)) ≤ length l.words) → sum (map f (item_then o later)) ≤ length r.words
  few_then r None later is few = omega arith
  few_then r (Some x) later is few =
      let words : length r.words ≡ length (spell form x.0) + length x.1.words = ap (λ (ws : List (List ℕ)). length ws) (form.exact.shows r x is).words ∙ length-append (spell form x.0) x.1.words in
      let one = light x.0 in
      let others = few x.1 in
      rw (sum_cons f x.0 (later x.1)) (omega (arith, words, one, others))

  pub few_read : (t : List ℕ → Bool) (n : ℕ) (r : Rest) → sum (map f (items n t (read form) r)) ≤ length r.words
  unfolding items
  few_read t zero r = omega arith
  few_read t (suc n) r = few_if (next_passes t r) (item_then (read form r) (items n t (read form))) (length r.words) (few_then r (read form r) (items n t (read form)) refl (few_read t n))

-- parts that pass a test, where no part is spelled with no word
pub few_passing_read : {A : Type 0} (form : Form A) (some : (a : A) → 1 ≤ length (spell form a)) (p : A → Bool) (t : List ℕ → Bool) (n : ℕ) (r : Rest) → length (filter p (items n t (read form) r)) ≤ length r.words
few_passing_read {A} form some p t n r =
    let k = few_passing p (items n t (read form) r) in
    let l = few_read form (λ (a : A). 1) some t n r in
    omega (arith, k, l)
