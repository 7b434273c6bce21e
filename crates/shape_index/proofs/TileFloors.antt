-- Sizes as powers of two, and tiles as floors.
use Rattle.std.proofs.Common.{◌≡◌, ◌≤◌, ◌<◌, ◌+◌, ◌-◌, ◌*◌, ◌/◌, ◌^◌, ℕ, zero, suc, max, pos, negsuc, ◌+ℤ◌, true, false, cond, refl, sym, ap, ◌∙◌, arith, inl, inr}
use Rattle.std.specs.Prelude.{nat_le}
use Rattle.std.proofs.Math.Nat.{add-mul-div_right, mul-le-mul_right, mod-lt, add-mul, pow-suc}
use Rattle.std.proofs.lemmas.Int.{ints}
use Rattle.std.proofs.lemmas.Bool.{cases_lt}
use Rattle.std.proofs.lemmas.Nat.{div-add-mod', pow-add, pow_pos}
use Rattle.std.specs.Int.{IsPowerOfTwo}
use Rattle.shape_index.specs.Tiles.{offset, size_from, least_size}
use Rattle.shape_index.specs.TileLaws.{SizesAreLeast, TilesAreFloors, MetIsNear}
use Rattle.shape_index.proofs.TileSizes.{size_holds}
use Rattle.shape_index.proofs.TileSearch.{near_here, near_of_met}

-- above 0: moved by b tiles
floor_above : (a b s n : ℕ) → 0 < s → n ≡ a + b * s → n / s ≡ a / s + b
floor_above a b s n some e = ap (λ (m : ℕ). m / s) e ∙ add-mul-div_right a b some

-- below 0: -(a + 1) lies in tile -(a / s + 1)
floor_below : (a b s n : ℕ) → 0 < s → n + (a + 1) ≡ b * s → n / s + (a / s + 1) ≡ b
floor_below a b s n some e =
    let x = div-add-mod' n s in
    let y = div-add-mod' a s in
    let u = mod-lt n some in
    let v = mod-lt a some in
    let d = add-mul (n / s) (a / s) s in
    let low : n / s + a / s < b = elim (cases_lt (n / s + a / s) b) [
      | inl h ↦ h
      | inr h ↦ let k = mul-le-mul_right s h in absurd (omega (arith, x, y, d, k, e))
    ] in
    let high : b ≤ n / s + a / s + 1 = elim (cases_lt (n / s + a / s + 1) b) [
      | inl h ↦ let k = mul-le-mul_right s h in
          let f = add-mul (n / s + a / s) 2 s in
          let g : suc (n / s + a / s + 1) * s ≡ (n / s + a / s + 2) * s = ap (λ (m : ℕ). m * s) (omega arith) in
          absurd (omega (arith, x, y, u, v, d, f, g, k, e))
      | inr h ↦ h
    ] in
    omega (arith, low, high)

halves : (k : ℕ) → k ≤ 63 → 2 ^ (63 - k) * 2 ^ k ≡ 2 ^ 63
halves k h = let e : (63 - k) + k ≡ 63 = omega (arith, h) in sym (pow-add 2 (63 - k) k) ∙ ap (λ (j : ℕ). 2 ^ j) e

joined : (a b c : ℕ) → a ≡ b + c → pos a ≡ pos b +ℤ pos c
joined a b c e = omega (arith, ints, e)

joined_below : (a b c : ℕ) → a + (b + 1) ≡ c → pos a ≡ negsuc b +ℤ pos c
joined_below a b c e = omega (arith, ints, e)

pub tiles_are_floors : TilesAreFloors
tiles_are_floors (pos a) k small low high =
    let under : a < 2 ^ 63 = omega (arith, ints, high) in
    let o : offset (pos a) ≡ a + 2 ^ (63 - k) * 2 ^ k = omega (arith, halves k small, under) in
    joined _ _ _ (floor_above a (2 ^ (63 - k)) (2 ^ k) (offset (pos a)) (pow_pos k) o)
tiles_are_floors (negsuc a) k small low high =
    let under : a < 2 ^ 63 = omega (arith, ints, low) in
    let o : offset (negsuc a) + (a + 1) ≡ 2 ^ (63 - k) * 2 ^ k = omega (arith, halves k small, under) in
    joined_below _ _ _ (floor_below a (2 ^ (63 - k)) (2 ^ k) (offset (negsuc a)) (pow_pos k) o)

power : (n k s side : ℕ) → s ≡ 2 ^ k → IsPowerOfTwo (size_from n s side)
unfolding size_from
power zero k s side e = (k, e)
power (suc n) k s side e =
    elim (nat_le side s) as (λ b. IsPowerOfTwo (cond b s (size_from n (s * 2) side))) [
      | true ↦ (k, e)
      | false ↦ power n (suc k) (s * 2) side (omega (arith, e, pow-suc 2 k))
    ]

half : (n s side : ℕ) → s / 2 < max 1 side → size_from n s side / 2 < max 1 side
unfolding size_from
half zero s side h = h
half (suc n) s side h =
    elim (nat_le side s) as (λ b. nat_le side s ≡ b → cond b s (size_from n (s * 2) side) / 2 < max 1 side) [
      | true ↦ λ t. h
      | false ↦ λ t. let over : s < side = grind arith in half n (s * 2) side (omega (arith, over))
    ] refl

pub sizes_are_least : SizesAreLeast
sizes_are_least side small =
    let under : side ≤ least_size side = elim (size_holds 63 0 1 side refl refl) [
      | inl h ↦ h
      | inr h ↦ omega (arith, h, small)
    ] in
    (power 63 0 1 side refl, under, half 63 1 side (omega arith))

pub met_is_near : MetIsNear
met_is_near layer r e h = near_here layer r e (near_of_met layer r e h)
