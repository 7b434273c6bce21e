-- Rounding to the nearest whole number.
use Rattle.std.proofs.Common.{◌≡◌, ℕ, zero, suc, ◌+◌, ◌*◌, ◌/◌, ◌^◌, ◌<◌, ◌≤◌, ℤ, pos, negsuc, ◌*ℤ◌, ◌-ℤ◌, neg_ℤ, arith, refl, ap, ◌∙◌}
use Rattle.std.specs.Prelude.{nat_abs, true, false}
use Rattle.std.specs.Int.Signed.{lt_z}
use borrow.Author.Tests.{ltb-true}
use Rattle.std.proofs.lemmas.Int.{ints}
use Rattle.design_model.specs.Units.{twice_off, IsNearest}

-- the rounded quotient
abbrev pub rounded : ℕ → ℕ → ℕ
rounded s d = (2 * s + d) / (2 * d)

below : (s d : ℕ) → 0 < d → 2 * (rounded s d * d) ≤ 2 * s + d
below s d h = omega arith

above : (s d : ℕ) → 0 < d → 2 * s < 2 * (rounded s d * d) + d
above s d h = omega arith

most : (w s d q : ℕ) → 2 * s < 2 * (q * d) + d → 2 * (w * d) ≤ 2 * s + d → w ≤ q
most w s d q h g = grind arith

off : (a b d : ℕ) → 2 * a ≤ 2 * b + d → 2 * b ≤ 2 * a + d → 2 * nat_abs (pos a -ℤ pos b) ≤ d
off a b d h g = omega (arith, ints)

off_least : (a b d : ℕ) → 2 * nat_abs (pos a -ℤ pos b) ≤ d → 2 * a ≤ 2 * b + d
off_least a b d h = omega (arith, ints)

off_neg : (a b d : ℕ) → 2 * a ≤ 2 * b + d → 2 * b ≤ 2 * a + d → 2 * nat_abs (neg_ℤ (pos a) -ℤ neg_ℤ (pos b)) ≤ d
off_neg a b d h g = omega (arith, ints)

off_neg_least : (a b d : ℕ) → 2 * nat_abs (neg_ℤ (pos a) -ℤ neg_ℤ (pos b)) ≤ d → 2 * a ≤ 2 * b + d
off_neg_least a b d h = omega (arith, ints)

apart_1 : (a b d : ℕ) → 2 * nat_abs (neg_ℤ (pos a) -ℤ pos b) ≤ d → 2 * a ≤ d
apart_1 a b d h = omega (arith, ints)

apart_2 : (a b d : ℕ) → 2 * nat_abs (pos a -ℤ neg_ℤ (pos b)) ≤ d → 2 * a ≤ d
apart_2 a b d h = omega (arith, ints)

none : (w d q : ℕ) → 0 < d → 2 * (w * d) ≤ d → w ≤ q
none zero d q some h = omega arith
none (suc w) d q some h = absurd (grind arith)

pub neg_mul : (q d : ℕ) → neg_ℤ (pos q) *ℤ pos d ≡ neg_ℤ (pos (q * d))
neg_mul zero d = let e : 0 * d ≡ 0 = omega arith in rw e refl
neg_mul (suc q) d = refl

abs_neg : (q : ℕ) → nat_abs (neg_ℤ (pos q)) ≡ q
abs_neg zero = refl
abs_neg (suc q) = refl

far_pos : (n k u q : ℕ) → 0 < 10 ^ k → 2 * (n * u) < 2 * (q * 10 ^ k) + 10 ^ k → (w : ℤ) → twice_off (pos n) k u w ≤ 10 ^ k → nat_abs w ≤ q
far_pos n k u q some high (pos w) h = most w (n * u) (10 ^ k) q high (off_least (w * 10 ^ k) (n * u) (10 ^ k) h)
far_pos n k u q some high (negsuc w) h = none (suc w) (10 ^ k) q some (apart_1 (suc w * 10 ^ k) (n * u) (10 ^ k) h)

far_neg : (n k u q : ℕ) → 0 < 10 ^ k → 2 * (suc n * u) < 2 * (q * 10 ^ k) + 10 ^ k → (w : ℤ) → twice_off (negsuc n) k u w ≤ 10 ^ k → nat_abs w ≤ q
far_neg n k u q some high (pos w) h = none w (10 ^ k) q some (apart_2 (w * 10 ^ k) (suc n * u) (10 ^ k) h)
far_neg n k u q some high (negsuc w) h = most (suc w) (suc n * u) (10 ^ k) q high (off_neg_least (suc w * 10 ^ k) (suc n * u) (10 ^ k) h)

pub nearest_pos : (n k u q : ℕ) → 0 < 10 ^ k → q ≡ rounded (n * u) (10 ^ k) → IsNearest (pos n) k u (pos q)
nearest_pos n k u q some is =
    let low : 2 * (q * 10 ^ k) ≤ 2 * (n * u) + 10 ^ k = rw is (below (n * u) (10 ^ k) some) in
    let high : 2 * (n * u) < 2 * (q * 10 ^ k) + 10 ^ k = rw is (above (n * u) (10 ^ k) some) in
    record { near = off (q * 10 ^ k) (n * u) (10 ^ k) low (omega arith); farthest = far_pos n k u q some high }

pub nearest_neg : (n k u q : ℕ) → 0 < 10 ^ k → q ≡ rounded (suc n * u) (10 ^ k) → IsNearest (negsuc n) k u (neg_ℤ (pos q))
nearest_neg n k u q some is =
    let low : 2 * (q * 10 ^ k) ≤ 2 * (suc n * u) + 10 ^ k = rw is (below (suc n * u) (10 ^ k) some) in
    let high : 2 * (suc n * u) < 2 * (q * 10 ^ k) + 10 ^ k = rw is (above (suc n * u) (10 ^ k) some) in
    record {
      near = rw (neg_mul q (10 ^ k)) (off_neg (q * 10 ^ k) (suc n * u) (10 ^ k) low (omega arith));
      farthest = λ w h. rw (abs_neg q) (far_neg n k u q some high w h);
    }

lt_zero : (n : ℕ) → lt_z (pos n) (pos 0) ≡ true → n < 0
lt_zero n h = ltb-true n 0 h

pub nearest_below : (z y r : ℤ) (k u p a q : ℕ) → y ≡ z → a ≡ nat_abs y → p ≡ 10 ^ k → 0 < p → q ≡ (2 * (a * u) + p) / (2 * p) → lt_z y (pos 0) ≡ true → r ≡ neg_ℤ (pos q) → IsNearest z k u r
nearest_below (pos n) y r k u p a q same size power some is minus sign = let h = rw same at minus in absurd (omega (arith, lt_zero n h))
nearest_below (negsuc n) y r k u p a q same size power some is minus sign =
    let s : a ≡ suc n = size ∙ ap nat_abs same in
    let pos_power : 0 < 10 ^ k = rw (← power) some in
    let e : q ≡ rounded (suc n * u) (10 ^ k) = is ∙ rw (s, power) refl in
    rw sign (nearest_neg n k u q pos_power e)

pub nearest_above : (z y r : ℤ) (k u p a q : ℕ) → y ≡ z → a ≡ nat_abs y → p ≡ 10 ^ k → 0 < p → q ≡ (2 * (a * u) + p) / (2 * p) → lt_z y (pos 0) ≡ false → r ≡ pos q → IsNearest z k u r
nearest_above (negsuc n) y r k u p a q same size power some is plus sign = let h = rw same at plus in absurd (cc)
nearest_above (pos n) y r k u p a q same size power some is plus sign =
    let s : a ≡ n = size ∙ ap nat_abs same in
    let pos_power : 0 < 10 ^ k = rw (← power) some in
    let e : q ≡ rounded (n * u) (10 ^ k) = is ∙ rw (s, power) refl in
    rw sign (nearest_pos n k u q pos_power e)
