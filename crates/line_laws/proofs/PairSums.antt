-- Lines of pairs, by how often each stands.
use Rattle.std.proofs.Common.{◌≡◌, ◌+◌, ℕ, cond, List, [], ◌∷◌, ◌++◌, refl, sym, ◌∙◌, arith, sum_by}
use Rattle.std.specs.List.{flat_map}
use Rattle.std.specs.Str.{bytes_eq}
use Rattle.std.proofs.lemmas.List.Sums.{sum_by-cons, sum_by-append}
use Rattle.design_model.specs.Families.{pair_lines}
use Rattle.line_laws.specs.Lines.{times, SameThings}
use Rattle.line_laws.specs.PairLaws.{PairsAreUnordered}

pub times-append : (q : List ℕ) (xs ys : List (List ℕ)) → times q (xs ++ ys) ≡ times q xs + times q ys
times-append q xs ys = sum_by-append (λ x. cond (bytes_eq q x) 1 0) xs ys

pub sum_by-same : {X : Type 0} (f g : X → ℕ) → ((x : X) → f x ≡ g x) → (xs : List X) → sum_by f xs ≡ sum_by g xs
sum_by-same f g h [] = refl
sum_by-same f g h (x ∷ xs) = let r = sum_by-same f g h xs in let e = h x in omega (arith, r, e, sum_by-cons f x xs, sum_by-cons g x xs)

pub sum_by-plus : {X : Type 0} (f g : X → ℕ) (xs : List X) → sum_by (λ x. f x + g x) xs ≡ sum_by f xs + sum_by g xs
sum_by-plus f g [] = refl
sum_by-plus f g (x ∷ xs) = let r = sum_by-plus f g xs in omega (arith, r, sum_by-cons f x xs, sum_by-cons g x xs, sum_by-cons (λ x. f x + g x) x xs)

pub times-flat_map : {A : Type 0} (q : List ℕ) (f : A → List (List ℕ)) (xs : List A) → times q (flat_map f xs) ≡ sum_by (λ x. times q (f x)) xs
times-flat_map q f [] = refl
times-flat_map q f (x ∷ xs) = let r = times-flat_map q f xs in omega (arith, r, times-append q (f x) (flat_map f xs), sum_by-cons (λ x. times q (f x)) x xs)

module _ {A : Type 0} (w : A → A → ℕ) where
  -- weights of all pairs, the earlier one first
  abbrev pair_sum : List A → ℕ
  pair_sum [] = 0
  pair_sum (x ∷ xs) = sum_by (w x) xs + pair_sum xs

  -- weights of each thing with each
  abbrev all_sum : List A → List A → ℕ
  all_sum xs ys = sum_by (λ x. sum_by (w x) ys) xs

  all-cons : (xs : List A) (y : A) (ys : List A) → all_sum xs (y ∷ ys) ≡ sum_by (λ x. w x y) xs + all_sum xs ys
  all-cons xs y ys =
      sum_by-same (λ x. sum_by (w x) (y ∷ ys)) (λ x. w x y + sum_by (w x) ys) (λ x. sum_by-cons (w x) y ys) xs
      ∙ sum_by-plus (λ x. w x y) (λ x. sum_by (w x) ys) xs

  -- twice the pairs, and each thing with itself, are all
  pair_twice : ((x y : A) → w x y ≡ w y x) → (xs : List A) → (pair_sum xs + pair_sum xs) + sum_by (λ x. w x x) xs ≡ all_sum xs xs
  pair_twice s [] = refl
  pair_twice s (x ∷ xs) =
      let r = pair_twice s xs in
      let e : sum_by (λ y. w y x) xs ≡ sum_by (w x) xs = sum_by-same (λ y. w y x) (w x) (λ y. s y x) xs in
      omega (arith, r, e, sum_by-cons (λ y. w y y) x xs, sum_by-cons (λ y. sum_by (w y) (x ∷ xs)) x xs, sum_by-cons (w x) x xs, all-cons xs x xs)

  all-same : (xs ys : List A) → SameThings xs ys → all_sum xs xs ≡ all_sum ys ys
  all-same xs ys s = sum_by-same (λ x. sum_by (w x) xs) (λ x. sum_by (w x) ys) (λ x. s.sums (w x)) xs ∙ s.sums (λ x. sum_by (w x) ys)

  pair-same : ((x y : A) → w x y ≡ w y x) → (xs ys : List A) → SameThings xs ys → pair_sum xs ≡ pair_sum ys
  pair-same s xs ys h =
      let a = pair_twice s xs in
      let b = pair_twice s ys in
      let c = all-same xs ys h in
      let d = h.sums (λ x. w x x) in
      omega (arith, a, b, c, d)

times-pair_lines : {A : Type 0} (q : List ℕ) (compare : A → A → List (List ℕ)) (xs : List A) → times q (pair_lines compare xs) ≡ pair_sum (λ x y. times q (compare x y)) xs
times-pair_lines q compare [] = refl
times-pair_lines q compare (x ∷ xs) =
    let r = times-pair_lines q compare xs in
    omega (arith, r, times-append q (flat_map (compare x) xs) (pair_lines compare xs), times-flat_map q (compare x) xs)

pub pairs_are_unordered : (A : Type 0) → PairsAreUnordered A
pairs_are_unordered A compare xs ys s h = record {
  often = λ q. times-pair_lines q compare xs ∙ pair-same (λ x y. times q (compare x y)) (λ x y. (s x y).often q) xs ys h ∙ sym (times-pair_lines q compare ys);
}
