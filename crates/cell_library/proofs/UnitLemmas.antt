-- The nearest number of database units is the one that the definition computes; and bounds of rectangles.
use Rattle.std.proofs.Common.{◌≡◌, ℕ, zero, suc, ◌^◌, ◌<◌, ◌≤◌, ℤ, pos, negsuc, ◌+ℤ◌, nat_abs, false, arith, refl}
use Rattle.std.specs.Prelude.{int_lt}
use Rattle.std.specs.Int.{int_min, int_max}
use Rattle.std.proofs.Math.Nat.{pow-suc}
use Rattle.std.proofs.lemmas.Int.{ints, clamps}
use Rattle.design_model.specs.declared.geometry.Point.{Point}
use Rattle.design_model.specs.Geometry.{IsNear, IsNearRectangle, Rectangle, moved, spanned}
use Rattle.design_model.specs.Units.{Distance, IsNearest, nearest, nearest_size}
use Rattle.unit_numbers.proofs.Rounding.{nearest_pos, nearest_neg}
use Rattle.unit_numbers.proofs.Unique.{nearest_is_unique}
use Rattle.cell_library.specs.Numbers.{IsWithin}

power_some : (k : ℕ) → 0 < 10 ^ k
power_some zero = omega arith
power_some (suc k) = rw pow-suc (omega (arith, power_some k))

not_below : (n : ℕ) → int_lt (pos n) (pos 0) ≡ false
not_below n = grind (arith, ints)

computed : (n : ℤ) (k u : ℕ) → IsNearest n k u (nearest (record { value = n; places = k }) u)
computed (pos n) k u = rw (not_below n) (nearest_pos n k u (nearest_size n k u) (power_some k) refl)
computed (negsuc n) k u = nearest_neg n k u (nearest_size (suc n) k u) (power_some k) refl

pub is_nearest : (d : Distance) (u : ℕ) (v : ℤ) → IsNearest d.value d.places u v → v ≡ nearest d u
is_nearest d u v near = (nearest_is_unique d.value d.places u).1 v (nearest d u) near (computed d.value d.places u)

low_within : (n : ℕ) (a b : ℤ) → nat_abs a ≤ n → nat_abs b ≤ n → nat_abs (int_min a b) ≤ n
low_within n a b h k = omega (arith, ints, clamps, h, k)

high_within : (n : ℕ) (a b : ℤ) → nat_abs a ≤ n → nat_abs b ≤ n → nat_abs (int_max a b) ≤ n
high_within n a b h k = omega (arith, ints, clamps, h, k)

pub spanned_within : (n : ℕ) (a b : Point) → nat_abs a.x ≤ n → nat_abs a.y ≤ n → nat_abs b.x ≤ n → nat_abs b.y ≤ n → IsWithin n (spanned a b)
spanned_within n a b ax ay bx by = record { x1 = low_within n a.x b.x ax bx; y1 = low_within n a.y b.y ay by; x2 = high_within n a.x b.x ax bx; y2 = high_within n a.y b.y ay by }

pub moved_there : (r : Rectangle) (dx dy x1 y1 x2 y2 : ℤ) → x1 ≡ r.x1 +ℤ dx → y1 ≡ r.y1 +ℤ dy → x2 ≡ r.x2 +ℤ dx → y2 ≡ r.y2 +ℤ dy → record { x1 = x1; y1 = y1; x2 = x2; y2 = y2 } ≡ moved dx dy r
moved_there r dx dy x1 y1 x2 y2 a b c d = rw (a, b, c, d) refl

near_sum : (a d z : ℤ) → nat_abs a ≤ 100000000000 → nat_abs d ≤ 100000000000 → z ≡ a +ℤ d → IsNear z
near_sum a d z h k e = rw e (record { low = omega (arith, ints, h, k); high = omega (arith, ints, h, k) })

pub near_moved : (r : Rectangle) (dx dy x1 y1 x2 y2 : ℤ) → IsWithin 100000000000 r → nat_abs dx ≤ 100000000000 → nat_abs dy ≤ 100000000000
    → x1 ≡ r.x1 +ℤ dx → y1 ≡ r.y1 +ℤ dy → x2 ≡ r.x2 +ℤ dx → y2 ≡ r.y2 +ℤ dy → IsNearRectangle (record { x1 = x1; y1 = y1; x2 = x2; y2 = y2 })
near_moved r dx dy x1 y1 x2 y2 b x y e f g h =
    record { x1 = near_sum r.x1 dx x1 b.x1 x e; y1 = near_sum r.y1 dy y1 b.y1 y f; x2 = near_sum r.x2 dx x2 b.x2 x g; y2 = near_sum r.y2 dy y2 b.y2 y h }
