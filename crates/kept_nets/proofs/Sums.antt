-- Sums over lists that are made of others, and whether something counts.
use Rattle.std.proofs.Common.{◌≡◌, ◌<◌, ℕ, Bool, true, false, cond, List, [], ◌∷◌, refl, arith, map, filter, flat_map, sum_by}
use Rattle.std.specs.List.{list_any}
use Rattle.std.proofs.lemmas.List.Sums.{sum_by-append, sum_by-cons}

-- by cases of a test
pub split : {P : Type 0} (b : Bool) → (b ≡ true → P) → (b ≡ false → P) → P
split true first second = first refl
split false first second = second refl

-- sums over what a function makes of a list, or a test leaves of it
pub sum_by-map : {A B : Type 0} (w : B → ℕ) (f : A → B) (xs : List A) → sum_by w (map f xs) ≡ sum_by (λ x. w (f x)) xs
sum_by-map w f [] = refl
sum_by-map w f (x ∷ xs) = let r = sum_by-map w f xs in omega (arith, r, sum_by-cons w (f x) (map f xs), sum_by-cons (λ y. w (f y)) x xs)

pub sum_by-flat_map : {A B : Type 0} (w : B → ℕ) (f : A → List B) (xs : List A) → sum_by w (flat_map f xs) ≡ sum_by (λ x. sum_by w (f x)) xs
sum_by-flat_map w f [] = refl
sum_by-flat_map w f (x ∷ xs) =
    let r = sum_by-flat_map w f xs in
    omega (arith, r, sum_by-append w (f x) (flat_map f xs), sum_by-cons (λ y. sum_by w (f y)) x xs)

pub sum_by-filter : {A : Type 0} (w : A → ℕ) (test : A → Bool) (xs : List A) → sum_by w (filter test xs) ≡ sum_by (λ x. cond (test x) (w x) 0) xs
sum_by-filter w test [] = refl
sum_by-filter w test (x ∷ xs) =
    let r = sum_by-filter w test xs in
    split (test x)
    (λ t. rw (t) (omega (arith, r, rw t at (sum_by-cons (λ y. cond (test y) (w y) 0) x xs), sum_by-cons w x (filter test xs))))
    (λ t. rw (t) (omega (arith, r, rw t at (sum_by-cons (λ y. cond (test y) (w y) 0) x xs))))

pub sum_by-same : {A : Type 0} (v w : A → ℕ) (xs : List A) → ((x : A) → v x ≡ w x) → sum_by v xs ≡ sum_by w xs
sum_by-same v w [] h = refl
sum_by-same v w (x ∷ xs) h = let r = sum_by-same v w xs h in omega (arith, r, h x, sum_by-cons v x xs, sum_by-cons w x xs)

-- a sum isn't 0 where something passes that counts
pub some_count : {A : Type 0} (w : A → ℕ) (test : A → Bool) (xs : List A) → ((x : A) → test x ≡ true → 0 < w x) → list_any test xs ≡ true → 0 < sum_by w xs
some_count w test [] h any = absurd (cc)
some_count w test (x ∷ xs) h any =
    split (test x)
    (λ t. omega (arith, h x t, sum_by-cons w x xs))
    (λ t. let rest : list_any test xs ≡ true = rw t at any in omega (arith, some_count w test xs h rest, sum_by-cons w x xs))
