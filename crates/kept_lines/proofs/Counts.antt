-- What lists of texts in the order of their bytes are: lemmas that design_model, where the order is defined, keeps to itself.
use Rattle.std.proofs.Common.{◌≡◌, ◌+◌, ℕ, true, false, cond, List, [], ◌∷◌, refl, ap, ◌∙◌, arith, sum_by}
use Rattle.std.proofs.lemmas.List.Sums.{sum_by-cons}
use Rattle.std.specs.Ordering.{is_lt, ordering_reverse}
use Rattle.std.specs.declared.cmp.Ordering.{Ordering}
use Rattle.std.specs.declared.cmp.Ordering.TheVariants.{Less, Equal, Greater}
use Rattle.std.proofs.lemmas.Cmp.{nat_list_cmp_total}
use Rattle.std.proofs.lemmas.Map.Lookups.{exact_bytes}
use Rattle.design_model.specs.Order.{byte_cmp, put_in_order, sorted_by_bytes}

abbrev Text : Type 0
Text = List ℕ

abbrev pub hit : Ordering → ℕ
hit Less = 0
hit Equal = 1
hit Greater = 0

-- how often q stands in a list
abbrev pub count : Text → List Text → ℕ
count q xs = sum_by (λ x. hit (byte_cmp q x)) xs

pub count-cons : (q x : Text) (xs : List Text) → count q (x ∷ xs) ≡ hit (byte_cmp q x) + count q xs
count-cons q x xs = sum_by-cons (λ t. hit (byte_cmp q t)) x xs

abbrev pub Above : Text → List Text → Type 0
Above x [] = Unit {0}
Above x (y ∷ ys) = (is_lt (byte_cmp y x) ≡ false) × Above x ys

abbrev pub Up : List Text → Type 0
Up [] = Unit {0}
Up (x ∷ xs) = Above x xs × Up xs

pub itself : (x : Text) → byte_cmp x x ≡ Equal
itself x =
    let a = nat_list_cmp_total.antisymm x x in
    elim (byte_cmp x x) as (λ r. r ≡ ordering_reverse r → r ≡ Equal) [ Less ↦ λ e. cc | Equal ↦ λ e. refl | Greater ↦ λ e. cc ] a

less_le : (x y z : Text) → byte_cmp x y ≡ Less → is_lt (byte_cmp z y) ≡ false → byte_cmp x z ≡ Less
less_le x y z p n =
    elim (byte_cmp z y) as (λ r. byte_cmp z y ≡ r → is_lt r ≡ false → byte_cmp x z ≡ Less) [
      | Less ↦ λ e h. cc
      | Equal ↦ λ e h. nat_list_cmp_total.antisymm x z ∙ ap ordering_reverse (nat_list_cmp_total.congr z y x e ∙ nat_list_cmp_total.antisymm y x ∙ ap ordering_reverse p)
      | Greater ↦ λ e h. nat_list_cmp_total.trans x y z p (nat_list_cmp_total.antisymm y z ∙ ap ordering_reverse e)
    ] refl n

pub not_back : (x y : Text) → byte_cmp y x ≡ Less → is_lt (byte_cmp x y) ≡ false
not_back x y p = ap is_lt (nat_list_cmp_total.antisymm x y ∙ ap ordering_reverse p)

pub not_less : (x y z : Text) → is_lt (byte_cmp y x) ≡ false → is_lt (byte_cmp z y) ≡ false → is_lt (byte_cmp z x) ≡ false
not_less x y z yx zy =
    elim (byte_cmp z x) as (λ r. byte_cmp z x ≡ r → is_lt r ≡ false) [
      | Less ↦ λ e. let f : is_lt (byte_cmp z y) ≡ true = ap is_lt (less_le z x y e yx) in cc
      | Equal ↦ λ e. refl
      | Greater ↦ λ e. refl
    ] refl

pub count-above : (x y : Text) (ys : List Text) → byte_cmp x y ≡ Less → Above y ys → count x ys ≡ 0
count-above x y [] p a = refl
count-above x y (z ∷ zs) p a =
    let e : hit (byte_cmp x z) ≡ 0 = ap hit (less_le x y z p a.0) in
    let r = count-above x y zs p a.1 in
    omega (arith, e, r, count-cons x z zs)

pub same_lists : (xs ys : List Text) → Up xs → Up ys → ((q : Text) → count q xs ≡ count q ys) → xs ≡ ys
same_lists [] [] u v h = refl
same_lists [] (y ∷ ys) u v h = let e = h y in let i : hit (byte_cmp y y) ≡ 1 = ap hit (itself y) in absurd (omega (arith, e, i, count-cons y y ys))
same_lists (x ∷ xs) [] u v h = let e = h x in let i : hit (byte_cmp x x) ≡ 1 = ap hit (itself x) in absurd (omega (arith, e, i, count-cons x x xs))
same_lists (x ∷ xs) (y ∷ ys) u v h =
    elim (byte_cmp x y) as (λ r. byte_cmp x y ≡ r → x ∷ xs ≡ y ∷ ys) [
      | Less ↦ λ e.
          let i : hit (byte_cmp x x) ≡ 1 = ap hit (itself x) in
          let j : hit (byte_cmp x y) ≡ 0 = ap hit e in
          let k = count-above x y ys e v.0 in
          let c = h x in absurd (omega (arith, i, j, k, c, count-cons x x xs, count-cons x y ys))
      | Equal ↦ λ e.
          let same : x ≡ y = exact_bytes x y e in
          let rest = same_lists xs ys u.1 v.1 (λ q. let c = h q in let s : hit (byte_cmp q x) ≡ hit (byte_cmp q y) = ap (λ t. hit (byte_cmp q t)) same in omega (arith, c, s, count-cons q x xs, count-cons q y ys)) in
          ap (λ t. t ∷ xs) same ∙ ap (λ l. y ∷ l) rest
      | Greater ↦ λ e.
          let back : byte_cmp y x ≡ Less = nat_list_cmp_total.antisymm y x ∙ ap ordering_reverse e in
          let i : hit (byte_cmp y y) ≡ 1 = ap hit (itself y) in
          let j : hit (byte_cmp y x) ≡ 0 = ap hit back in
          let k = count-above y x xs back u.0 in
          let c = h y in absurd (omega (arith, i, j, k, c, count-cons y x xs, count-cons y y ys))
    ] refl

above_put : (z x : Text) (ys : List Text) → is_lt (byte_cmp x z) ≡ false → Above z ys → Above z (put_in_order x ys)
above_put z x [] h a = (h, tt)
above_put z x (y ∷ ys) h a =
    elim (is_lt (byte_cmp y x)) as (λ b. Above z (cond b (y ∷ put_in_order x ys) (x ∷ y ∷ ys))) [
      | true ↦ (a.0, above_put z x ys h a.1)
      | false ↦ (h, (a.0, a.1))
    ]

pub above_lower : (x y : Text) (ys : List Text) → is_lt (byte_cmp y x) ≡ false → Above y ys → Above x ys
above_lower x y [] h a = tt
above_lower x y (z ∷ zs) h a = (not_less x y z h a.0, above_lower x y zs h a.1)

pub is_less : (r : Ordering) → is_lt r ≡ true → r ≡ Less
is_less Less e = refl
is_less Equal e = cc
is_less Greater e = cc

pub up_put : (x : Text) (ys : List Text) → Up ys → Up (put_in_order x ys)
up_put x [] u = (tt, tt)
up_put x (y ∷ ys) u =
    elim (is_lt (byte_cmp y x)) as (λ b. is_lt (byte_cmp y x) ≡ b → Up (cond b (y ∷ put_in_order x ys) (x ∷ y ∷ ys))) [
      | true ↦ λ e. (above_put y x ys (not_back x y (is_less _ e)) u.0, up_put x ys u.1)
      | false ↦ λ e. ((e, above_lower x y ys e u.0), u)
    ] refl

pub up_sorted : (xs : List Text) → Up (sorted_by_bytes xs)
up_sorted [] = tt
up_sorted (x ∷ xs) = up_put x (sorted_by_bytes xs) (up_sorted xs)

pub count-put : (q x : Text) (ys : List Text) → count q (put_in_order x ys) ≡ hit (byte_cmp q x) + count q ys
count-put q x [] = count-cons q x []
count-put q x (y ∷ ys) =
    elim (is_lt (byte_cmp y x)) as (λ b. count q (cond b (y ∷ put_in_order x ys) (x ∷ y ∷ ys)) ≡ hit (byte_cmp q x) + count q (y ∷ ys)) [
      | true ↦ let r = count-put q x ys in omega (arith, r, count-cons q y (put_in_order x ys), count-cons q y ys)
      | false ↦ count-cons q x (y ∷ ys)
    ]

pub count-sorted : (q : Text) (xs : List Text) → count q (sorted_by_bytes xs) ≡ count q xs
count-sorted q [] = refl
count-sorted q (x ∷ xs) = let r = count-sorted q xs in let p = count-put q x (sorted_by_bytes xs) in omega (arith, r, p, count-cons q x xs)
