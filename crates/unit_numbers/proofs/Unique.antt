-- Each distance has exactly one nearest number of database units.
use Rattle.std.proofs.Common.{◌≡◌, ℕ, zero, suc, ◌*◌, ◌^◌, ◌<◌, ◌≤◌, ℤ, pos, negsuc, ◌*ℤ◌, ◌-ℤ◌, neg_ℤ, arith, refl, ap}
use Rattle.std.proofs.Math.Nat.{pow-suc}
use Rattle.std.specs.Prelude.{nat_abs}
use Rattle.std.proofs.lemmas.Int.{ints}
use Rattle.design_model.specs.Units.{IsNearest}
use Rattle.unit_numbers.proofs.Rounding.{rounded, nearest_pos, nearest_neg}
use Rattle.unit_numbers.specs.Laws.{NearestIsUnique}

power_some : (k : ℕ) → 0 < 10 ^ k
power_some zero = omega arith
power_some (suc k) = rw pow-suc (omega (arith, power_some k))

exists : (n : ℤ) (k u : ℕ) → 0 < 10 ^ k → (v : ℤ) × IsNearest n k u v
exists (pos n) k u some = (pos (rounded (n * u) (10 ^ k)), nearest_pos n k u _ some refl)
exists (negsuc n) k u some = (neg_ℤ (pos (rounded (suc n * u) (10 ^ k))), nearest_neg n k u _ some refl)

-- two numbers near the same, one as far from zero as the other, are the same
same : (v w m : ℤ) (d : ℕ) → 0 < d → nat_abs v ≡ nat_abs w → 2 * nat_abs (v *ℤ pos d -ℤ m) ≤ d → 2 * nat_abs (w *ℤ pos d -ℤ m) ≤ d → v ≡ w
same (pos a) (pos b) m d some is near_v near_w = ap pos is
same (negsuc a) (negsuc b) m d some is near_v near_w = ap negsuc (omega arith)
same (pos a) (negsuc b) m d some is near_v near_w = grind (arith, ints)
same (negsuc a) (pos b) m d some is near_v near_w = grind (arith, ints)

pub nearest_is_unique : NearestIsUnique
nearest_is_unique n k u = (
  exists n k u (power_some k),
  λ v w is_v is_w.
      let a : nat_abs w ≤ nat_abs v = is_v.farthest w is_w.near in
      let b : nat_abs v ≤ nat_abs w = is_w.farthest v is_v.near in
      same v w (n *ℤ pos u) (10 ^ k) (power_some k) (omega arith) is_v.near is_w.near,
)
