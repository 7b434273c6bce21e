-- How far numbers reach.
use Rattle.std.proofs.Common.{◌≡◌, ℕ, ◌≤◌, ℤ, nat_abs, arith}
use Rattle.std.specs.Int.{int_min, int_max}
use Rattle.std.proofs.lemmas.Int.{ints, clamps}
use Rattle.design_model.specs.declared.geometry.Point.{Point}
use Rattle.design_model.specs.Geometry.{Rectangle, spanned}
use Rattle.cell_library.specs.Numbers as cells
use Rattle.design_model.specs.Ranges.{IsBoxWithin, IsPointWithin, IsWithin}

pub within : (n : ℕ) (z : ℤ) → nat_abs z ≤ n → IsWithin n z
within n z h = record { low = omega (arith, ints, h); high = omega (arith, ints, h) }

pub point_within : (n : ℕ) (p : Point) → nat_abs p.x ≤ n → nat_abs p.y ≤ n → IsPointWithin n p
point_within n p h k = record { x = within n p.x h; y = within n p.y k }

lower : (n : ℕ) (a b : ℤ) → IsWithin n a → IsWithin n b → IsWithin n (int_min a b)
lower n a b v w = record { low = omega (arith, ints, clamps); high = omega (arith, ints, clamps) }

upper : (n : ℕ) (a b : ℤ) → IsWithin n a → IsWithin n b → IsWithin n (int_max a b)
upper n a b v w = record { low = omega (arith, ints, clamps); high = omega (arith, ints, clamps) }

pub spanned_within : (n : ℕ) (a b : Point) (r : Rectangle) → r ≡ spanned a b → IsPointWithin n a → IsPointWithin n b → IsBoxWithin n r
spanned_within n a b r e p q =
    rw e (record { x1 = lower n a.x b.x p.x q.x; y1 = lower n a.y b.y p.y q.y; x2 = upper n a.x b.x p.x q.x; y2 = upper n a.y b.y p.y q.y })

wide : (m n : ℕ) (z : ℤ) → m ≤ n → IsWithin m z → IsWithin n z
wide m n z h w = record { low = omega (arith, ints); high = omega (arith, ints) }

pub box_wider : (m n : ℕ) (r : Rectangle) → m ≤ n → IsBoxWithin m r → IsBoxWithin n r
box_wider m n r h b = record { x1 = wide m n r.x1 h b.x1; y1 = wide m n r.y1 h b.y1; x2 = wide m n r.x2 h b.x2; y2 = wide m n r.y2 h b.y2 }

pub box_within : (n : ℕ) (r : Rectangle) → cells.IsWithin n r → IsBoxWithin n r
box_within n r b = record { x1 = within n r.x1 b.x1; y1 = within n r.y1 b.y1; x2 = within n r.x2 b.x2; y2 = within n r.y2 b.y2 }
