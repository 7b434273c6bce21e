-- Overlapping, either way round and by unit squares.
use Rattle.std.proofs.Common.{◌≡◌, ℤ, ◌≤ℤ◌, ◌<ℤ◌, arith, refl}
use Rattle.std.specs.Prelude.{true, int_lt}
use Rattle.std.specs.Int.{int_min, int_max}
use Rattle.std.proofs.lemmas.Int.{ints, clamps}
use Rattle.std.proofs.lemmas.Bool.{and_parts, and_from}
use Rattle.orient_geom.specs.Laws.{OverlapIsSymmetric, OverlapIsSharedArea}

max_comm : (a b : ℤ) → int_max a b ≡ int_max b a
max_comm a b = omega (arith, ints, clamps)

min_comm : (a b : ℤ) → int_min a b ≡ int_min b a
min_comm a b = omega (arith, ints, clamps)

pub overlap_is_symmetric : OverlapIsSymmetric
overlap_is_symmetric a b = rw (max_comm a.x1 b.x1, min_comm a.x2 b.x2, max_comm a.y1 b.y1, min_comm a.y2 b.y2) refl

-- a test and what it says
below_of : (p q : ℤ) → int_lt p q ≡ true → p <ℤ q
below_of p q h = grind (arith, ints)

test_of : (p q : ℤ) → p <ℤ q → int_lt p q ≡ true
test_of p q h = grind (arith, ints)

-- two intervals share a unit
record Shares (a b c d i : ℤ) : Type 0 where
  first_low : a ≤ℤ i
  first_high : i <ℤ b
  second_low : c ≤ℤ i
  second_high : i <ℤ d

shared : (a b c d : ℤ) → int_lt (int_max a c) (int_min b d) ≡ true → Shares a b c d (int_max a c)
shared a b c d h =
    let below : int_max a c <ℤ int_min b d = below_of _ _ h in
    record { first_low = omega (arith, ints, clamps); first_high = omega (arith, ints, clamps); second_low = omega (arith, ints, clamps); second_high = omega (arith, ints, clamps) }

sharing : (a b c d i : ℤ) → Shares a b c d i → int_lt (int_max a c) (int_min b d) ≡ true
sharing a b c d i h =
    let below : int_max a c <ℤ int_min b d = omega (arith, ints, clamps) in
    test_of _ _ below

pub overlap_is_shared_area : OverlapIsSharedArea
overlap_is_shared_area a b = (
  λ h.
      let parts = and_parts _ _ h in
      let wide = shared a.x1 a.x2 b.x1 b.x2 parts.0 in
      let high = shared a.y1 a.y2 b.y1 b.y2 parts.1 in
      (int_max a.x1 b.x1, int_max a.y1 b.y1, record { left = wide.first_low; right = wide.first_high; below = high.first_low; above = high.first_high }, record { left = wide.second_low; right = wide.second_high; below = high.second_low; above = high.second_high }),
  λ square.
      let i = square.0 in
      let j = square.1 in
      let in_a = square.2 in
      let in_b = square.3 in
      let wide = sharing a.x1 a.x2 b.x1 b.x2 i (record { first_low = in_a.left; first_high = in_a.right; second_low = in_b.left; second_high = in_b.right }) in
      let high = sharing a.y1 a.y2 b.y1 b.y2 j (record { first_low = in_a.below; first_high = in_a.above; second_low = in_b.below; second_high = in_b.above }) in
      and_from _ _ wide high,
)
