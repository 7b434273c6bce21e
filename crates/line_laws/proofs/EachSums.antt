-- Lines of each thing, and of each with each of another list, by how often each stands.
use Rattle.std.proofs.Common.{◌≡◌, ◌+◌, ℕ, List, [], ◌∷◌, refl, sym, ◌∙◌, arith, sum_by}
use Rattle.std.specs.List.{flat_map}
use Rattle.std.proofs.lemmas.List.Sums.{sum_by-cons}
use Rattle.design_model.specs.Families.{cross_lines}
use Rattle.line_laws.specs.Lines.{times, SameThings}
use Rattle.line_laws.specs.EachLaws.{EachIsUnordered, CrossesAreUnordered, CrossesTurn}
use Rattle.line_laws.proofs.PairSums.{sum_by-same, sum_by-plus, times-flat_map}

pub each_is_unordered : (A : Type 0) → EachIsUnordered A
each_is_unordered A f xs ys h = record {
  often = λ q. times-flat_map q f xs ∙ h.sums (λ x. times q (f x)) ∙ sym (times-flat_map q f ys);
}

-- weights of each thing with each of another list
abbrev cross_sum : {A B : Type 0} → (A → B → ℕ) → List A → List B → ℕ
cross_sum w xs zs = sum_by (λ x. sum_by (w x) zs) xs

times-cross_lines : {A B : Type 0} (q : List ℕ) (f : A → B → List (List ℕ)) (xs : List A) (zs : List B) → times q (cross_lines f xs zs) ≡ cross_sum (λ x z. times q (f x z)) xs zs
times-cross_lines q f xs zs =
    times-flat_map q (λ x. flat_map (f x) zs) xs
    ∙ sum_by-same (λ x. times q (flat_map (f x) zs)) (λ x. sum_by (λ z. times q (f x z)) zs) (λ x. times-flat_map q (f x) zs) xs

cross_same : {A B : Type 0} (w : A → B → ℕ) (xs ys : List A) (zs ws : List B) → SameThings xs ys → SameThings zs ws → cross_sum w xs zs ≡ cross_sum w ys ws
cross_same w xs ys zs ws h k = sum_by-same (λ x. sum_by (w x) zs) (λ x. sum_by (w x) ws) (λ x. k.sums (w x)) xs ∙ h.sums (λ x. sum_by (w x) ws)

pub crosses_are_unordered : (A B : Type 0) → CrossesAreUnordered A B
crosses_are_unordered A B f xs ys zs ws h k = record {
  often = λ q. times-cross_lines q f xs zs ∙ cross_same (λ x z. times q (f x z)) xs ys zs ws h k ∙ sym (times-cross_lines q f ys ws);
}

none_with : {A : Type 0} (xs : List A) → sum_by (λ x. 0) xs ≡ 0
none_with [] = refl
none_with (x ∷ xs) = let r = none_with xs in omega (arith, r, sum_by-cons (λ y. 0) x xs)

cross_turn : {A B : Type 0} (w : A → B → ℕ) (xs : List A) (zs : List B) → cross_sum w xs zs ≡ cross_sum (λ z x. w x z) zs xs
cross_turn w [] zs = sym (none_with zs)
cross_turn w (x ∷ xs) zs =
    let r = cross_turn w xs zs in
    let each = sum_by-same (λ z. sum_by (λ y. w y z) (x ∷ xs)) (λ z. w x z + sum_by (λ y. w y z) xs) (λ z. sum_by-cons (λ y. w y z) x xs) zs in
    let plus = sum_by-plus (w x) (λ z. sum_by (λ y. w y z) xs) zs in
    omega (arith, r, each, plus, sum_by-cons (λ y. sum_by (w y) zs) x xs)

pub crosses_turn : (A B : Type 0) → CrossesTurn A B
crosses_turn A B f xs zs = record {
  often = λ q. times-cross_lines q f xs zs ∙ cross_turn (λ x z. times q (f x z)) xs zs ∙ sym (times-cross_lines q (λ z x. f x z) zs xs);
}
