-- Sums over pairs of a list, and of all things with all.
use Rattle.std.proofs.Common.{◌≡◌, ◌≤◌, ◌+◌, ℕ, zero, suc, Bool, cond, List, [], ◌∷◌, map, filter, drop, length, get_or, refl, sym, ap, ◌∙◌, arith, sum_by}
use Rattle.std.specs.List.{flat_map}
use Rattle.std.proofs.lemmas.List.{drop_more}
use Rattle.std.proofs.lemmas.List.Sums.{sum_by-cons, sum_by-append}
use Rattle.shape_rules.specs.Classes.{numbers}
use Rattle.shape_rules.specs.Meeting.{pairs_of}
use Rattle.line_laws.proofs.PairSums.{sum_by-same, sum_by-plus}
use Rattle.shape_pairs.proofs.Calls.{split}

pub nothing : {A : Type 0} (f : A → ℕ) → ((x : A) → f x ≡ 0) → (xs : List A) → sum_by f xs ≡ 0
nothing f h [] = refl
nothing f h (x ∷ xs) = let e = h x in omega (arith, nothing f h xs, e, sum_by-cons f x xs)

pub sum_of_map : {A B : Type 0} (w : B → ℕ) (f : A → B) (xs : List A) → sum_by w (map f xs) ≡ sum_by (λ x. w (f x)) xs
sum_of_map w f [] = refl
sum_of_map w f (x ∷ xs) = let r = sum_of_map w f xs in omega (arith, r, sum_by-cons w (f x) (map f xs), sum_by-cons (λ y. w (f y)) x xs)

pub sum_of_flat_map : {A B : Type 0} (w : B → ℕ) (f : A → List B) (xs : List A) → sum_by w (flat_map f xs) ≡ sum_by (λ x. sum_by w (f x)) xs
sum_of_flat_map w f [] = refl
sum_of_flat_map w f (x ∷ xs) = let r = sum_of_flat_map w f xs in omega (arith, r, sum_by-append w (f x) (flat_map f xs), sum_by-cons (λ y. sum_by w (f y)) x xs)

-- what a test leaves out weighs nothing
pub sum_of_filter : {A : Type 0} (w : A → ℕ) (p : A → Bool) (xs : List A) → sum_by w (filter p xs) ≡ sum_by (λ x. cond (p x) (w x) 0) xs
sum_of_filter w p [] = refl
sum_of_filter w p (x ∷ xs) =
    let r = sum_of_filter w p xs in
    let c = sum_by-cons (λ x. cond (p x) (w x) 0) x xs in
    split (p x)
    (λ t.
    let e : cond (p x) (w x) 0 ≡ w x = ap (λ (b : Bool). cond b (w x) 0) t in
    let f : sum_by w (filter p (x ∷ xs)) ≡ sum_by w (x ∷ filter p xs) = ap (λ (b : Bool). sum_by w (cond b (x ∷ filter p xs) (filter p xs))) t in
    omega (arith, r, c, e, f, sum_by-cons w x (filter p xs)))
    (λ t.
    let e : cond (p x) (w x) 0 ≡ 0 = ap (λ (b : Bool). cond b (w x) 0) t in
    let f : sum_by w (filter p (x ∷ xs)) ≡ sum_by w (filter p xs) = ap (λ (b : Bool). sum_by w (cond b (x ∷ filter p xs) (filter p xs))) t in
    omega (arith, r, c, e, f))

-- sums of sums, in either order
pub sums_turn : {A B : Type 0} (h : A → B → ℕ) (xs : List A) (ys : List B) → sum_by (λ x. sum_by (h x) ys) xs ≡ sum_by (λ y. sum_by (λ x. h x y) xs) ys
sums_turn h [] ys = sym (nothing (λ y. 0) (λ y. refl) ys)
sums_turn h (x ∷ xs) ys =
    let r = sums_turn h xs ys in
    let p = sum_by-plus (h x) (λ y. sum_by (λ x. h x y) xs) ys in
    let s = sum_by-same (λ y. sum_by (λ x. h x y) (x ∷ xs)) (λ y. h x y + sum_by (λ x. h x y) xs) (λ y. sum_by-cons (λ x. h x y) x xs) ys in
    omega (arith, r, p, s, sum_by-cons (λ x. sum_by (h x) ys) x xs)

module _ {A : Type 0} (w : A → A → ℕ) where
  -- weights of all pairs, the earlier one first
  abbrev pub pair_sum : List A → ℕ
  pair_sum [] = 0
  pair_sum (x ∷ xs) = sum_by (w x) xs + pair_sum xs

  pub over_pairs : (xs : List A) → sum_by (λ (p : A × A). w p.0 p.1) (pairs_of xs) ≡ pair_sum xs
  over_pairs [] = refl
  over_pairs (x ∷ xs) =
      let r = over_pairs xs in
      let m = sum_of_map {B = A × A} (λ (p : A × A). w p.0 p.1) (λ y. (x, y)) xs in
      omega (arith, r, m, sum_by-append (λ (p : A × A). w p.0 p.1) (map {B = A × A} (λ y. (x, y)) xs) (pairs_of xs))

pub pairs_same : {A : Type 0} (v w : A → A → ℕ) → ((x y : A) → v x y ≡ w x y) → (xs : List A) → pair_sum v xs ≡ pair_sum w xs
pairs_same v w h [] = refl
pairs_same v w h (x ∷ xs) = let r = pairs_same v w h xs in let s = sum_by-same (v x) (w x) (h x) xs in omega (arith, r, s)

-- a list is what stands at its places
pub at_places : {A : Type 0} (xs : List A) (d : A) (a n : ℕ) → a + n ≡ length xs → map (λ k. get_or xs k d) (numbers a n) ≡ drop a xs
unfolding numbers
at_places xs d a zero e = sym (over xs a (omega (arith, e)))
  where
    over : {A : Type 0} (xs : List A) (j : ℕ) → length xs ≤ j → drop j xs ≡ []
    over [] zero h = refl
    over [] (suc j) h = refl
    over (x ∷ xs) zero h = absurd (omega (arith, h))
    over (x ∷ xs) (suc j) h = over xs j (omega (arith, h))
at_places xs d a (suc n) e =
    let r = at_places xs d (suc a) n (omega (arith, e)) in
    let m = drop_more xs a d (omega (arith, e)) in
    let s : a + 1 ≡ suc a = omega arith in
    ap (λ ys. get_or xs a d ∷ ys) r ∙ sym (m ∙ ap (λ (k : ℕ). get_or xs a d ∷ drop k xs) s)
