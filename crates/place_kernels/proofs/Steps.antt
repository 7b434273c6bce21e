-- Steps counted from 0: where one ends, by division.
use Rattle.std.proofs.Common.{◌≡◌, ℕ, zero, suc, ◌+◌, ◌-◌, ◌*◌, ◌/◌, ◌%◌, ◌<◌, ◌≤◌, Bool, true, false, List, [], ◌∷◌, map, get_or, ℤ, pos, negsuc, neg_ℤ, ◌+ℤ◌, ◌-ℤ◌, ◌*ℤ◌, ◌≤ℤ◌, ◌<ℤ◌, arith, refl, sym, ◌∙◌, ap}
use Rattle.std.specs.Prelude.{◌==◌, ◌||◌, ◌&&◌, nat_le, nat_lt, nat_eq}
use Rattle.std.specs.Bool.{Decides}
use Rattle.std.specs.Int.{int_signum}
use Rattle.std.specs.Int.Signed.{le_z}
use Rattle.std.specs.List.{list_any, range_with_len}
use Rattle.std.specs.Ordering.{int_eq}
use Rattle.std.proofs.lemmas.Bool.{ltb-true, ltb-false, le-leb, lt-leb, eq-eqb, ne_eqb, false_from_ne_true}
use Rattle.std.proofs.lemmas.Bool.Decides.{Decides-int_eq, same_from_decides}
use Rattle.std.proofs.lemmas.Int.{ints}
use Rattle.std.proofs.lemmas.List.Folds.{list_any_at, list_any_none}
use Rattle.std.proofs.lemmas.List.FromFn.{length-range_with_len, get_or-range_with_len}
use Rattle.std.proofs.Math.IntN.{neg_ℤ-neg_ℤ}
use Rattle.place_rules.specs.Sites.{places}
use Rattle.std.proofs.Math.Nat.{mod-add-div', mul-mod_left, mul-div_left, suc-mul, mul-le-mul_right, lt-div-mul-add, div-mul-le_self}

pub any_at : (p : ℕ → Bool) (n k : ℕ) → k < n → p k ≡ true → list_any p (range_with_len 0 n) ≡ true
any_at p n k below is =
    let at : get_or (range_with_len 0 n) k 0 ≡ k = get_or-range_with_len 0 n k 0 below ∙ omega arith in
    list_any_at p (range_with_len 0 n) k 0 (rw (length-range_with_len 0 n) below) (ap p at ∙ is)

pub any_none : (p : ℕ → Bool) (n : ℕ) → ((k : ℕ) → k < n → p k ≡ false) → list_any p (range_with_len 0 n) ≡ false
any_none p n none = list_any_none p (range_with_len 0 n) (λ k d below.
    let inside : k < n = rw (length-range_with_len 0 n) at below in
    let at : get_or (range_with_len 0 n) k d ≡ k = get_or-range_with_len 0 n k d inside ∙ omega arith in
    ap p at ∙ none k inside)

any_when : (p : ℕ → Bool) (n : ℕ) (b : Bool) → (b ≡ true → (k : ℕ) × (k < n) × (p k ≡ true)) → (b ≡ false → (k : ℕ) → k < n → p k ≡ false) → b ≡ list_any p (range_with_len 0 n)
any_when p n true some none = let at = some refl in sym (any_at p n at.0 at.1 at.2)
any_when p n false some none = sym (any_none p n (none refl))

-- tests that agree on each item
pub any_same : {X : Type 0} (p q : X → Bool) → ((x : X) → p x ≡ q x) → (xs : List X) → list_any p xs ≡ list_any q xs
any_same p q same [] = refl
any_same p q same (x ∷ xs) = rw (same x, any_same p q same xs) refl

pub step_at : (n s d : ℕ) → 0 < s → d % s ≡ 0 → nat_lt (d / s) n ≡ list_any (λ i. (i * s) == d) (range_with_len 0 n)
step_at n s d forward whole =
    let is : d % s + d / s * s ≡ d = mod-add-div' d s in
    let multiple : d / s * s ≡ d = omega arith in
    any_when (λ i. (i * s) == d) n (nat_lt (d / s) n)
    (λ h. (d / s, ltb-true _ _ h, eq-eqb _ _ multiple))
    (λ h k below. ne_eqb _ _ (λ equal.
    let far : n ≤ d / s = ltb-false _ _ h in
    let quotient : d / s ≡ k = ap (λ m. m / s) (sym equal) ∙ mul-div_left k forward in
    omega arith))

pub step_between : (n s d : ℕ) → (d % s ≡ 0 → ⊥) → nat_eq (d % s) 0 ≡ list_any (λ i. (i * s) == d) (range_with_len 0 n)
step_between n s d part = ne_eqb _ _ part ∙ sym (any_none (λ i. (i * s) == d) n (λ k below. ne_eqb _ _ (λ equal.
    part (ap (λ m. m % s) (sym equal) ∙ mul-mod_left k s))))

pub step_past : (n s d : ℕ) → 0 < s → 0 < d → nat_lt ((d - 1) / s + 1) n ≡ list_any (λ i. nat_le d (i * s)) (range_with_len 0 n)
step_past n s d forward some =
    let quotient : ℕ = (d - 1) / s in
    let next : suc quotient * s ≡ quotient * s + s = suc-mul quotient s in
    let over : d - 1 < quotient * s + s = lt-div-mul-add forward in
    let under : quotient * s ≤ d - 1 = div-mul-le_self (d - 1) s in
    any_when (λ i. nat_le d (i * s)) n (nat_lt (quotient + 1) n)
    (λ h.
    let within : quotient + 1 < n = ltb-true _ _ h in
    (suc quotient, omega arith, le-leb _ _ (omega arith)))
    (λ h k below.
    let far : n ≤ quotient + 1 = ltb-false _ _ h in
    let short : k * s ≤ quotient * s = mul-le-mul_right s (omega arith) in
    lt-leb _ _ (omega arith))

-- signed steps and distances
differs : (x y : ℤ) → (x ≡ y → ⊥) → int_eq x y ≡ false
differs x y h = false_from_ne_true (int_eq x y) (λ is. h ((Decides-int_eq x y).0 is))

apart_at : (k : ℕ) (s d : ℤ) → (d ≡ pos 0 → ⊥) → (int_signum s ≡ int_signum d → ⊥) → pos k *ℤ s ≡ d → ⊥
apart_at k (pos zero) d some apart h = some (sym h ∙ omega (arith, ints))
apart_at k (pos (suc s)) (pos zero) some apart h = some refl
apart_at k (pos (suc s)) (pos (suc d)) some apart h = apart (omega (arith, ints))
apart_at k (pos (suc s)) (negsuc d) some apart h = omega (arith, ints)
apart_at k (negsuc s) (pos zero) some apart h = some refl
apart_at k (negsuc s) (pos (suc d)) some apart h = omega (arith, ints)
apart_at k (negsuc s) (negsuc d) some apart h = apart refl

pub lands_apart : (n : ℕ) (s d : ℤ) → (d ≡ pos 0 → ⊥) → (int_signum s ≡ int_signum d → ⊥) → false ≡ list_any (λ i. int_eq (pos i *ℤ s) d) (range_with_len 0 n)
lands_apart n s d some apart = sym (any_none (λ i. int_eq (pos i *ℤ s) d) n (λ k below. differs (pos k *ℤ s) d (apart_at k s d some apart)))

short_at : (k : ℕ) (s d : ℤ) → pos 0 <ℤ d → s ≤ℤ pos 0 → le_z d (pos k *ℤ s) ≡ false
short_at k s (pos zero) some back = absurd (omega (arith, ints))
short_at k s (negsuc d) some back = absurd (omega (arith, ints))
short_at k (pos zero) (pos (suc d)) some back = lt-leb _ _ (omega arith)
short_at k (pos (suc s)) (pos (suc d)) some back = absurd (omega (arith, ints))
short_at k (negsuc s) (pos (suc d)) some back =
    let m : ℕ = k * suc s in
    grind (arith, ints)

pub reaches_none : (n : ℕ) (s d : ℤ) → pos 0 <ℤ d → s ≤ℤ pos 0 → false ≡ list_any (λ i. le_z d (pos i *ℤ s)) (range_with_len 0 n)
reaches_none n s d some back = sym (any_none (λ i. le_z d (pos i *ℤ s)) n (λ k below. short_at k s d some back))

-- places are steps from the first one on
pub any_map : {X Y : Type 0} (p : Y → Bool) (h : X → Y) (xs : List X) → list_any (λ x. p (h x)) xs ≡ list_any p (map h xs)
any_map p h [] = refl
any_map p h (x ∷ xs) = ap (λ b. p (h x) || b) (any_map p h xs)

from_first : (f m b : ℤ) → int_eq m (b -ℤ f) ≡ int_eq (f +ℤ m) b
from_first f m b =
    let there = Decides-int_eq (f +ℤ m) b in
    let here = Decides-int_eq m (b -ℤ f) in
    same_from_decides _ _ here ((λ h. let e : f +ℤ m ≡ b = there.0 h in omega (arith, ints)), (λ (e : m ≡ b -ℤ f). there.1 (omega (arith, ints))))

pub Decides-le_z : (x y : ℤ) → Decides (le_z x y) (x ≤ℤ y)
Decides-le_z x y = ((λ h. grind (arith, ints)), (λ h. grind (arith, ints)))

negated : (s : ℤ) → pos 0 -ℤ s ≡ neg_ℤ s
negated s = omega (arith, ints)

mul_back : (k : ℕ) (s : ℤ) → pos k *ℤ neg_ℤ s ≡ neg_ℤ (pos k *ℤ s)
mul_back k (pos zero) = omega (arith, ints)
mul_back k (pos (suc s)) = refl
mul_back k (negsuc s) = sym (neg_ℤ-neg_ℤ (pos (k * suc s)))

left_of : (f m b : ℤ) → le_z (f -ℤ b) (neg_ℤ m) ≡ le_z (f +ℤ m) b
left_of f m b =
    let there = Decides-le_z (f +ℤ m) b in
    same_from_decides _ _ (Decides-le_z (f -ℤ b) (neg_ℤ m)) ((λ h. let e : (f +ℤ m) ≤ℤ b = there.0 h in omega (arith, ints)), (λ (e : (f -ℤ b) ≤ℤ neg_ℤ m). there.1 (omega (arith, ints))))

right_of : (f m b w : ℤ) → le_z ((b -ℤ w) -ℤ f) m ≡ le_z b ((f +ℤ m) +ℤ w)
right_of f m b w =
    let there = Decides-le_z b ((f +ℤ m) +ℤ w) in
    same_from_decides _ _ (Decides-le_z ((b -ℤ w) -ℤ f) m) ((λ h. let e : b ≤ℤ ((f +ℤ m) +ℤ w) = there.0 h in omega (arith, ints)), (λ (e : ((b -ℤ w) -ℤ f) ≤ℤ m). there.1 (omega (arith, ints))))

pub place_is : (n : ℕ) (f s b : ℤ) → list_any (λ i. int_eq (pos i *ℤ s) (b -ℤ f)) (range_with_len 0 n) ≡ list_any (λ x. int_eq x b) (places f s n)
place_is n f s b = any_same _ _ (λ i. from_first f (pos i *ℤ s) b) (range_with_len 0 n) ∙ any_map (λ x. int_eq x b) (λ i. f +ℤ (pos i *ℤ s)) (range_with_len 0 n)

pub place_left_of : (n : ℕ) (f s b : ℤ) → list_any (λ i. le_z (f -ℤ b) (pos i *ℤ (pos 0 -ℤ s))) (range_with_len 0 n) ≡ list_any (λ x. le_z x b) (places f s n)
place_left_of n f s b = any_same _ _ (λ i. ap (λ m. le_z (f -ℤ b) m) (ap (λ z. pos i *ℤ z) (negated s) ∙ mul_back i s) ∙ left_of f (pos i *ℤ s) b) (range_with_len 0 n) ∙ any_map (λ x. le_z x b) (λ i. f +ℤ (pos i *ℤ s)) (range_with_len 0 n)

pub place_right_of : (n : ℕ) (f s b w : ℤ) → list_any (λ i. le_z ((b -ℤ w) -ℤ f) (pos i *ℤ s)) (range_with_len 0 n) ≡ list_any (λ x. le_z b (x +ℤ w)) (places f s n)
place_right_of n f s b w = any_same _ _ (λ i. right_of f (pos i *ℤ s) b w) (range_with_len 0 n) ∙ any_map (λ x. le_z b (x +ℤ w)) (λ i. f +ℤ (pos i *ℤ s)) (range_with_len 0 n)

-- the parts of a test
pub after_true : (a b r : Bool) → true ≡ a → r ≡ b → r ≡ (a && b)
after_true true b r h k = k
after_true false b r h k = cc

pub after_false : (a b : Bool) → false ≡ a → false ≡ (a && b)
after_false true b h = cc
after_false false b h = refl

pub same_answer : (a b : Bool) → (a ≡ true → b ≡ true) → (b ≡ true → a ≡ true) → a ≡ b
same_answer a b there back = same_from_decides a b (there, back) ((λ h. h), (λ h. h))
