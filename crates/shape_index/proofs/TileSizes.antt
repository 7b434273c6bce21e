-- Sizes and tiles of coordinates.
use Rattle.std.proofs.Common.{◌≡◌, ◌≤◌, ◌<◌, ◌+◌, ◌-◌, ◌*◌, ◌/◌, ◌^◌, ℕ, zero, suc, max, ℤ, pos, negsuc, ◌≤ℤ◌, ◌<ℤ◌, ◌-ℤ◌, neg_ℤ, true, false, cond, ◌⊎◌, refl, sym, ap, ◌∙◌, arith, inl, inr}
use Rattle.std.specs.Prelude.{nat_le, unsigned_abs}
use Rattle.std.proofs.lemmas.Int.{ints}
use Rattle.std.proofs.lemmas.Bool.{cases_lt}
use Rattle.std.proofs.lemmas.Nat.{le-div, pow_pos}
use Rattle.std.proofs.Math.Nat.{div-mul-le_self, add-div_right, pow-suc}
use Rattle.std.proofs.Math.Pow.{pow_mono}
use Rattle.shape_index.specs.Tiles.{offset, size_from, least_size, side}

pub offset_rises : (a b : ℤ) → a ≤ℤ b → offset a ≤ offset b
offset_rises (pos a) (pos b) h = let k : a ≤ b = omega (arith, ints) in omega arith
offset_rises (pos a) (negsuc b) h = absurd (omega (arith, ints))
offset_rises (negsuc a) (pos b) h = omega arith
offset_rises (negsuc a) (negsuc b) h = let k : b ≤ a = omega (arith, ints) in omega arith

pub offset_below : (z : ℤ) → offset z < 2 ^ 64
offset_below (pos a) = omega arith
offset_below (negsuc a) = omega arith

pub offset_is : (z : ℤ) → neg_ℤ (pos (2 ^ 63)) ≤ℤ z → z <ℤ pos (2 ^ 63) → unsigned_abs (z -ℤ neg_ℤ (pos (2 ^ 63))) ≡ offset z
offset_is (pos a) low high = let k : a < 2 ^ 63 = omega (arith, ints) in grind (arith, ints)
offset_is (negsuc a) low high = let k : a < 2 ^ 63 = omega (arith, ints) in grind (arith, ints)

-- what is a power of two and more than another is twice that at least
doubled : (k m : ℕ) → 2 ^ k < 2 ^ m → 2 ^ k * 2 ≤ 2 ^ m
doubled k m h =
    elim (cases_lt k m) [
      | inl below ↦ let up = pow_mono {i = suc k} {j = m} (omega (arith, below)) in omega (arith, up, pow-suc 2 k)
      | inr above ↦ let down = pow_mono {i = m} {j = k} above in absurd (omega (arith, down, h))
    ]

-- the least power of two, from a power of two on that isn't above it
pub least_from : (n k m s r side : ℕ) → s ≡ 2 ^ k → r ≡ 2 ^ m → k + n ≡ 63 → side ≤ r → r ≤ 2 ^ 63 → r / 2 < max 1 side → s ≤ r → r ≡ size_from n s side
unfolding size_from
least_from zero k m s r side sp rp count under cap half low =
    let e : k ≡ 63 = omega (arith, count) in
    let t : s ≡ 2 ^ 63 = sp ∙ ap (λ (j : ℕ). 2 ^ j) e in
    omega (arith, t, cap, low)
least_from (suc n) k m s r side sp rp count under cap half low =
    elim (nat_le side s) as (λ b. nat_le side s ≡ b → r ≡ cond b s (size_from n (s * 2) side)) [
      | true ↦ λ t.
          let fits : side ≤ s = grind arith in
          let some = pow_pos k in
          elim (cases_lt s r) [
            | inl h ↦ let d = doubled k m (rw (sp, rp) at h) in absurd (omega (arith, d, sp, rp, half, fits, some))
            | inr h ↦ omega (arith, h, low)
          ]
      | false ↦ λ t.
          let over : s < side = grind arith in
          let above : 2 ^ k < 2 ^ m = omega (arith, sp, rp, over, under) in
          let d = doubled k m above in
          least_from n (suc k) m (s * 2) r side (omega (arith, sp, pow-suc 2 k)) rp (omega (arith, count)) under cap half (omega (arith, d, sp, rp))
    ] refl

pub size_some : (n s side : ℕ) → 0 < s → 0 < size_from n s side
unfolding size_from
size_some zero s side h = h
size_some (suc n) s side h =
    elim (nat_le side s) as (λ b. 0 < cond b s (size_from n (s * 2) side)) [
      | true ↦ h
      | false ↦ size_some n (s * 2) side (omega (arith, h))
    ]

-- the size isn't below the side, or it is the largest
pub size_holds : (n k s side : ℕ) → s ≡ 2 ^ k → k + n ≡ 63 → (side ≤ size_from n s side) ⊎ (size_from n s side ≡ 2 ^ 63)
unfolding size_from
size_holds zero k s side sp count = let e : k ≡ 63 = omega (arith, count) in inr (sp ∙ ap (λ (j : ℕ). 2 ^ j) e)
size_holds (suc n) k s side sp count =
    elim (nat_le side s) as (λ b. nat_le side s ≡ b → (side ≤ cond b s (size_from n (s * 2) side)) ⊎ (cond b s (size_from n (s * 2) side) ≡ 2 ^ 63)) [
      | true ↦ λ t. inl (grind arith)
      | false ↦ λ t. size_holds n (suc k) (s * 2) side (omega (arith, sp, pow-suc 2 k)) (omega (arith, count))
    ] refl

-- a side above the largest size has that size
pub large_from : (n k s side : ℕ) → s ≡ 2 ^ k → k + n ≡ 63 → 2 ^ 63 < side → 2 ^ 63 ≡ size_from n s side
unfolding size_from
large_from zero k s side sp count large = let e : k ≡ 63 = omega (arith, count) in sym (sp ∙ ap (λ (j : ℕ). 2 ^ j) e)
large_from (suc n) k s side sp count large =
    let up = pow_mono {i = k} {j = 63} (omega (arith, count)) in
    let e : nat_le side s ≡ false = grind (arith, up, sp, large) in
    rw e (large_from n (suc k) (s * 2) side (omega (arith, sp, pow-suc 2 k)) (omega (arith, count)) large)

pub least_some : (side : ℕ) → 0 < least_size side
least_some side = size_some 63 1 side (omega arith)

pub largest_is : (side : ℕ) → 2 ^ 63 < side → 2 ^ 63 ≡ least_size side
largest_is side large = large_from 63 0 1 side refl refl large

pub least_is : (side r m : ℕ) → r ≡ 2 ^ m → side ≤ r → r / 2 < max 1 side → side ≤ 2 ^ 63 → r ≡ least_size side
least_is side r m rp under half small =
    let some : 0 < r = rw rp (pow_pos m) in
    let cap : r ≤ 2 ^ 63 = elim (cases_lt 63 m) [
      | inl h ↦ let up = pow_mono {i = 64} {j = m} (omega (arith, h)) in absurd (omega (arith, up, rp, half, small))
      | inr h ↦ let down = pow_mono {i = m} {j = 63} h in omega (arith, down, rp)
    ] in
    least_from 63 0 m 1 r side refl rp refl under cap half (omega (arith, some))

-- the tile of a greater number isn't lower
pub lower : (n m s : ℕ) → 0 < s → n ≤ m → n / s ≤ m / s
lower n m s some h = le-div (n / s) m s some (omega (arith, h, div-mul-le_self n s))

-- the tile of a number at most a size further is at most one higher
pub one_more : (n m s : ℕ) → 0 < s → n ≤ m + s → n / s ≤ m / s + 1
one_more n m s some h = omega (arith, lower n (m + s) s some h, add-div_right m some)

-- a rectangle ends in the tile where it begins, or in the next
pub ends_next : (low high sd : ℕ) → high - low ≤ sd → high < 2 ^ 64 → high / least_size sd ≤ low / least_size sd + 1
ends_next low high sd within bound =
    let some = least_some sd in
    elim (size_holds 63 0 1 sd refl refl) [
      | inl h ↦ one_more high low (least_size sd) some (omega (arith, h, within))
      | inr h ↦ rw h (omega (arith, bound))
    ]
