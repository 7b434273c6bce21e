-- Numbers that are near enough to be turned and moved.
use Rattle.std.proofs.Common.{◌≤◌, ℤ, ◌+ℤ◌, nat_abs, arith}
use Rattle.std.proofs.lemmas.Int.{ints}
use Rattle.design_model.specs.Geometry.{IsNear, IsNearRectangle, Rectangle, moved}
use Rattle.design_model.specs.Ranges.{IsBoxWithin, IsPointWithin, IsWithin}
use Rattle.design_model.specs.declared.geometry.Point.{Point}
use Rattle.cell_library.specs.Numbers as library

near_sum : (a b : ℤ) → nat_abs a ≤ 100000000000 → IsWithin 100000000000 b → IsNear (a +ℤ b)
near_sum a b h k = record { low = omega (arith, ints, k.low, k.high); high = omega (arith, ints, k.low, k.high) }

-- a rectangle of a macro, moved by its origin
pub near_in_macro : (r : Rectangle) (p : Point) → library.IsWithin 100000000000 r → IsPointWithin 100000000000 p → IsNearRectangle (moved p.x p.y r)
near_in_macro r p h k = record {
  x1 = near_sum r.x1 p.x h.x1 k.x;
  y1 = near_sum r.y1 p.y h.y1 k.y;
  x2 = near_sum r.x2 p.x h.x2 k.x;
  y2 = near_sum r.y2 p.y h.y2 k.y;
}

near_far : (a b : ℤ) → IsWithin 1000000000000000000 a → IsWithin 2147483647 b → IsNear (a +ℤ b)
near_far a b h k = record { low = omega (arith, ints, h.low, h.high, k.low, k.high); high = omega (arith, ints, h.low, h.high, k.low, k.high) }

-- a rectangle of a via, moved to a place of a text
pub near_via : (r : Rectangle) (p : Point) → IsBoxWithin 1000000000000000000 r → IsPointWithin 2147483647 p → IsNearRectangle (moved p.x p.y r)
near_via r p h k = record {
  x1 = near_far r.x1 p.x h.x1 k.x;
  y1 = near_far r.y1 p.y h.y1 k.y;
  x2 = near_far r.x2 p.x h.x2 k.x;
  y2 = near_far r.y2 p.y h.y2 k.y;
}
