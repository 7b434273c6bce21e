-- Bounds of turned and moved rectangles.
use Rattle.std.proofs.Common.{◌≡◌, ℕ, ◌^◌, ◌+◌, ◌≤◌, ℤ, neg_ℤ, ◌+ℤ◌, arith, refl}
use Rattle.std.specs.Int.{int_min, int_max}
use Rattle.std.proofs.lemmas.Int.{ints, clamps}
use Rattle.design_model.specs.declared.geometry.Orient.{Orient}
use Rattle.design_model.specs.declared.geometry.Orient.TheVariants.{N, W, S, E, FN, FS, FW, FE}
use Rattle.design_model.specs.declared.geometry.Point.{Point}
use Rattle.design_model.specs.Geometry.{IsNear, IsNearRectangle, Rectangle, moved, turned}
use Rattle.wire_rules.specs.Placed.{turned_at}
use Rattle.design_model.specs.Ranges.{IsBoxWithin, IsPointWithin, IsWithin}

module _ (n : ℕ) where
  mirrored : (z : ℤ) → IsWithin n z → IsWithin n (neg_ℤ z)
  mirrored z w = record { low = omega (arith, ints); high = omega (arith, ints) }

  pub lower : (a b : ℤ) → IsWithin n a → IsWithin n b → IsWithin n (int_min a b)
  lower a b v w = record { low = omega (arith, ints, clamps); high = omega (arith, ints, clamps) }

  pub upper : (a b : ℤ) → IsWithin n a → IsWithin n b → IsWithin n (int_max a b)
  upper a b v w = record { low = omega (arith, ints, clamps); high = omega (arith, ints, clamps) }

  span : (a b : ℤ) → IsWithin n a → IsWithin n b → IsWithin n (int_min a b) × IsWithin n (int_max a b)
  span a b v w = (lower a b v w, upper a b v w)

  mirrored_span : (a b : ℤ) → IsWithin n a → IsWithin n b → IsWithin n (int_min (neg_ℤ a) (neg_ℤ b)) × IsWithin n (int_max (neg_ℤ a) (neg_ℤ b))
  mirrored_span a b v w = span (neg_ℤ a) (neg_ℤ b) (mirrored a v) (mirrored b w)

  turned_within : (o : Orient) (r : Rectangle) → IsBoxWithin n r → IsBoxWithin n (turned o r)
  turned_within o r b =
      let x = span r.x1 r.x2 b.x1 b.x2 in
      let y = span r.y1 r.y2 b.y1 b.y2 in
      let mx = mirrored_span r.x1 r.x2 b.x1 b.x2 in
      let my = mirrored_span r.y1 r.y2 b.y1 b.y2 in
      elim o as (λ o. IsBoxWithin n (turned o r)) [
        | N ↦ record { x1 = x.0; y1 = y.0; x2 = x.1; y2 = y.1 }
        | W ↦ record { x1 = my.0; y1 = x.0; x2 = my.1; y2 = x.1 }
        | S ↦ record { x1 = mx.0; y1 = my.0; x2 = mx.1; y2 = my.1 }
        | E ↦ record { x1 = y.0; y1 = mx.0; x2 = y.1; y2 = mx.1 }
        | FN ↦ record { x1 = mx.0; y1 = y.0; x2 = mx.1; y2 = y.1 }
        | FS ↦ record { x1 = x.0; y1 = my.0; x2 = x.1; y2 = my.1 }
        | FW ↦ record { x1 = y.0; y1 = x.0; x2 = y.1; y2 = x.1 }
        | FE ↦ record { x1 = my.0; y1 = mx.0; x2 = my.1; y2 = mx.1 }
      ]

near_sum : (m n : ℕ) (a b z : ℤ) → m + n ≤ 2 ^ 61 → z ≡ a +ℤ b → IsWithin m a → IsWithin n b → IsNear z
near_sum m n a b z h e v w = record { low = omega (arith, ints); high = omega (arith, ints) }

pub near_moved : (m n : ℕ) (r box : Rectangle) (by : Point) → m + n ≤ 2 ^ 61 → box ≡ moved by.x by.y r → IsBoxWithin m r → IsPointWithin n by → IsNearRectangle box
near_moved m n r box by h e b p = rw e (record {
  x1 = near_sum m n r.x1 by.x _ h refl b.x1 p.x;
  y1 = near_sum m n r.y1 by.y _ h refl b.y1 p.y;
  x2 = near_sum m n r.x2 by.x _ h refl b.x2 p.x;
  y2 = near_sum m n r.y2 by.y _ h refl b.y2 p.y;
})

pub near_turned : (m n : ℕ) (o : Orient) (r box : Rectangle) (at : Point) → m + n ≤ 2 ^ 61 → box ≡ turned_at o at r → IsBoxWithin m r → IsPointWithin n at → IsNearRectangle box
near_turned m n o r box at h e b p = near_moved m n (turned o r) box at h e (turned_within m o r b) p
