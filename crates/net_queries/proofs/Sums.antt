-- Sums over what functions give, over what tests leave, and over pairs.
use Rattle.std.proofs.Common.{◌≡◌, ◌+◌, ℕ, Bool, true, false, cond, List, [], ◌∷◌, map, filter, refl, sym, ap, ◌∙◌, arith, sum_by}
use Rattle.std.specs.List.{flat_map, list_any}
use Rattle.std.proofs.lemmas.List.Sums.{sum_by-cons, sum_by-append}
use Rattle.shape_rules.specs.Meeting.{pairs_of}
use Rattle.line_laws.specs.Lines.{SameThings}
use Rattle.net_queries.proofs.Joins.{split}

pub sums_same : {X : Type 0} (f g : X → ℕ) → ((x : X) → f x ≡ g x) → (xs : List X) → sum_by f xs ≡ sum_by g xs
sums_same f g h [] = refl
sums_same f g h (x ∷ xs) = let r = sums_same f g h xs in let e = h x in omega (arith, r, e, sum_by-cons f x xs, sum_by-cons g x xs)

pub sums_plus : {X : Type 0} (f g : X → ℕ) (xs : List X) → sum_by (λ x. f x + g x) xs ≡ sum_by f xs + sum_by g xs
sums_plus f g [] = refl
sums_plus f g (x ∷ xs) = let r = sums_plus f g xs in omega (arith, r, sum_by-cons f x xs, sum_by-cons g x xs, sum_by-cons (λ x. f x + g x) x xs)

pub sums_none : {X : Type 0} (f : X → ℕ) → ((x : X) → f x ≡ 0) → (xs : List X) → sum_by f xs ≡ 0
sums_none f h [] = refl
sums_none f h (x ∷ xs) = let r = sums_none f h xs in let e = h x in omega (arith, r, e, sum_by-cons f x xs)

pub sums_mapped : {X Y : Type 0} (w : Y → ℕ) (f : X → Y) (xs : List X) → sum_by w (map f xs) ≡ sum_by (λ x. w (f x)) xs
sums_mapped w f [] = refl
sums_mapped w f (x ∷ xs) = let r = sums_mapped w f xs in omega (arith, r, sum_by-cons w (f x) (map f xs), sum_by-cons (λ y. w (f y)) x xs)

pub sums_of_each : {X Y : Type 0} (w : Y → ℕ) (f : X → List Y) (xs : List X) → sum_by w (flat_map f xs) ≡ sum_by (λ x. sum_by w (f x)) xs
sums_of_each w f [] = refl
sums_of_each w f (x ∷ xs) = let r = sums_of_each w f xs in omega (arith, r, sum_by-append w (f x) (flat_map f xs), sum_by-cons (λ x. sum_by w (f x)) x xs)

pub sums_tested : {X : Type 0} (w : X → ℕ) (p : X → Bool) (xs : List X) → sum_by w (filter p xs) ≡ sum_by (λ x. cond (p x) (w x) 0) xs
sums_tested w p [] = refl
sums_tested w p (x ∷ xs) =
    let r = sums_tested w p xs in
    let e = sum_by-cons (λ x. cond (p x) (w x) 0) x xs in
    let kept : (q : Bool) → p x ≡ q → sum_by w (filter p (x ∷ xs)) ≡ sum_by w (cond q (x ∷ filter p xs) (filter p xs)) = λ q t. ap (λ q. sum_by w (cond q (x ∷ filter p xs) (filter p xs))) t in
    let term : (q : Bool) → p x ≡ q → cond (p x) (w x) 0 ≡ cond q (w x) 0 = λ q t. ap (λ q. cond q (w x) 0) t in
    split (p x)
    (λ t. let k = kept true t in let here = term true t in omega (arith, r, e, k, here, sum_by-cons w x (filter p xs)))
    (λ t. let k = kept false t in let here = term false t in omega (arith, r, e, k, here))

-- two sums are nothing where their terms are
pub both_none : {X : Type 0} (f g : X → ℕ) → ((x : X) → f x ≡ 0 → g x ≡ 0) → (xs : List X) → sum_by f xs ≡ 0 → sum_by g xs ≡ 0
both_none f g h [] e = refl
both_none f g h (x ∷ xs) e =
    let a = sum_by-cons f x xs in
    let b = sum_by-cons g x xs in
    let here = h x (omega (arith, a, e)) in
    let later = both_none f g h xs (omega (arith, a, e)) in
    omega (arith, b, here, later)

-- where some passes a test, and where each counts that does
pub any_none : {X : Type 0} (p : X → Bool) (d : ℕ) (xs : List X) → cond (list_any p xs) d 0 ≡ 0 → sum_by (λ x. cond (p x) d 0) xs ≡ 0
any_none p d [] e = refl
any_none p d (x ∷ xs) e =
    let s = sum_by-cons (λ x. cond (p x) d 0) x xs in
    split (p x)
    (λ t. let zero : d ≡ 0 = rw t at e in sums_none (λ x. cond (p x) d 0) (λ y. split (p y) (λ u. rw u zero) (λ u. rw u refl)) (x ∷ xs))
    (λ t. let r = any_none p d xs (rw t at e) in omega (arith, s, r, ap (λ b. cond b d 0) t))

pub none_any : {X : Type 0} (p : X → Bool) (d : ℕ) (xs : List X) → sum_by (λ x. cond (p x) d 0) xs ≡ 0 → cond (list_any p xs) d 0 ≡ 0
none_any p d [] e = refl
none_any p d (x ∷ xs) e =
    let s = sum_by-cons (λ x. cond (p x) d 0) x xs in
    split (p x)
    (λ t. rw t (omega (arith, s, e, ap (λ b. cond b d 0) t)))
    (λ t. rw t (none_any p d xs (omega (arith, s, e))))

-- weights of each thing of a list with each of another
abbrev pub crossed : {X Y : Type 0} → (X → Y → ℕ) → List X → List Y → ℕ
crossed w xs ys = sum_by (λ x. sum_by (w x) ys) xs

pub crossed_same : {X Y : Type 0} (w v : X → Y → ℕ) → ((x : X) (y : Y) → w x y ≡ v x y) → (xs : List X) (ys : List Y) → crossed w xs ys ≡ crossed v xs ys
crossed_same w v h xs ys = sums_same (λ x. sum_by (w x) ys) (λ x. sum_by (v x) ys) (λ x. sums_same (w x) (v x) (h x) ys) xs

pub crossed_things : {X : Type 0} (w : X → X → ℕ) (xs ys : List X) → SameThings xs ys → crossed w xs xs ≡ crossed w ys ys
crossed_things w xs ys s = sums_same (λ x. sum_by (w x) xs) (λ x. sum_by (w x) ys) (λ x. s.sums (w x)) xs ∙ s.sums (λ x. sum_by (w x) ys)

crossed_cons : {X Y : Type 0} (w : X → Y → ℕ) (xs : List X) (y : Y) (ys : List Y) → crossed w xs (y ∷ ys) ≡ sum_by (λ x. w x y) xs + crossed w xs ys
crossed_cons w xs y ys =
    sums_same (λ x. sum_by (w x) (y ∷ ys)) (λ x. w x y + sum_by (w x) ys) (λ x. sum_by-cons (w x) y ys) xs
    ∙ sums_plus (λ x. w x y) (λ x. sum_by (w x) ys) xs

pub crossed_turned : {X Y : Type 0} (w : X → Y → ℕ) (xs : List X) (ys : List Y) → crossed w xs ys ≡ crossed (λ y x. w x y) ys xs
crossed_turned w [] ys = sym (sums_none (λ y. 0) (λ y. refl) ys)
crossed_turned w (x ∷ xs) ys =
    let r = crossed_turned w xs ys in
    omega (arith, r, crossed_cons (λ y x. w x y) ys x xs, sum_by-cons (λ x. sum_by (w x) ys) x xs)

pub crossed_of_each : {X Y : Type 0} (w : Y → Y → ℕ) (f : X → List Y) (xs zs : List X) → crossed w (flat_map f xs) (flat_map f zs) ≡ crossed (λ x z. crossed w (f x) (f z)) xs zs
crossed_of_each w f xs zs =
    sums_of_each (λ u. sum_by (w u) (flat_map f zs)) f xs
    ∙ sums_same (λ x. crossed w (f x) (flat_map f zs)) (λ x. sum_by (λ z. crossed w (f x) (f z)) zs)
    (λ x. sums_same (λ u. sum_by (w u) (flat_map f zs)) (λ u. sum_by (λ z. sum_by (w u) (f z)) zs) (λ u. sums_of_each (w u) f zs) (f x)
    ∙ crossed_turned (λ u z. sum_by (w u) (f z)) (f x) zs) xs

pub crossed_mapped : {X Y : Type 0} (w : Y → Y → ℕ) (f g : X → Y) (xs zs : List X) → crossed w (map f xs) (map g zs) ≡ crossed (λ x z. w (f x) (g z)) xs zs
crossed_mapped w f g xs zs =
    sums_mapped (λ y. sum_by (w y) (map g zs)) f xs
    ∙ sums_same (λ x. sum_by (w (f x)) (map g zs)) (λ x. sum_by (λ z. w (f x) (g z)) zs) (λ x. sums_mapped (w (f x)) g zs) xs

-- weights of all pairs, where a thing with itself has none: twice the pairs are all
module _ {X : Type 0} (w : X → X → ℕ) (turns : (x y : X) → w x y ≡ w y x) (alone : (x : X) → w x x ≡ 0) where
  pub paired_twice : (xs : List X) → crossed w xs xs ≡ sum_by (λ p. w p.0 p.1) (pairs_of xs) + sum_by (λ p. w p.0 p.1) (pairs_of xs)
  paired_twice [] = refl
  paired_twice (x ∷ xs) =
      let r = paired_twice xs in
      let e = sums_same (λ y. w y x) (w x) (λ y. turns y x) xs in
      let a = alone x in
      let m = sums_mapped {Y = X × X} (λ p. w p.0 p.1) (λ y. (x, y)) xs in
      let s = sum_by-append {X = X × X} (λ p. w p.0 p.1) (map (λ y. (x, y)) xs) (pairs_of xs) in
      omega (arith, r, e, a, m, s, sum_by-cons (λ y. sum_by (w y) (x ∷ xs)) x xs, sum_by-cons (w x) x xs, crossed_cons w xs x xs)
