-- The places of an array stay within reach, step by step.
use Rattle.std.proofs.Common.{◌≡◌, ℕ, ◌-◌, ◌<◌, ◌≤◌, ℤ, pos, ◌+ℤ◌, ap, arith, refl}
use Rattle.std.proofs.lemmas.Int.{ints}
use Rattle.design_model.specs.declared.geometry.Point.{Point}
use Rattle.design_model.specs.Ranges.{IsArray, IsPointWithin, IsWithin}
use Rattle.wire_shapes.specs.PlacesLeft.{IsInReach, reach}
use Rattle.wire_shapes.specs.declared.via_places.ViaPlaces.{ViaPlaces}

pub wider : (m n : ℕ) (z : ℤ) → m ≤ n → IsWithin m z → IsWithin n z
wider m n z h w = record { low = omega (arith, ints); high = omega (arith, ints) }

none : (n : ℕ) → IsWithin n (pos 0)
none n = record { low = omega (arith, ints); high = omega (arith, ints) }

stays : (n : ℕ) (a b z : ℤ) → z ≡ a +ℤ b → b ≡ pos 0 → IsWithin n a → IsWithin n z
stays n a b z e f w = record { low = omega (arith, ints); high = omega (arith, ints) }

goes : (n : ℕ) (a b z : ℤ) → z ≡ a +ℤ b → 0 < n → n ≤ 1000000 → IsWithin (reach n) a → IsWithin 2147483647 b → IsWithin (reach (n - 1)) z
goes n a b z e some few w v = record { low = omega (arith, ints); high = omega (arith, ints) }

reach_first : (n : ℕ) → n ≤ 1000000 → 2147483647 ≤ reach n
reach_first n h = omega arith

reach_all : (n : ℕ) → reach n ≤ reach 0
reach_all n = omega arith

reach_fewer : (n : ℕ) → reach n ≤ reach (n - 1)
reach_fewer n = omega arith

pub all_in_reach : (columns rows : ℕ) (step at across up : Point) → across ≡ record { x = step.x; y = pos 0 } → up ≡ record { x = pos 0; y = step.y }
    → IsArray columns rows → IsPointWithin 2147483647 step → IsPointWithin 2147483647 at
    → IsInReach (record { across = across; up = up; columns = columns; at = at; in_row = 0; row = at; rows = rows })
all_in_reach columns rows step at across up e f array s a = rw (e, f) (record {
  across = record { x = s.x; y = none _ };
  flat = refl;
  up = record { x = none _; y = s.y };
  straight = refl;
  some = array.some;
  columns = array.across;
  in_row = omega arith;
  rows = array.along;
  at_x = wider _ _ _ (reach_first 0 (omega arith)) a.x;
  at_y = wider _ _ _ (reach_first rows array.along) a.y;
  row_x = a.x;
  row_y = wider _ _ _ (reach_first rows array.along) a.y;
})

module _ (w : ViaPlaces) (there : Point) (r : IsInReach w) where
  pub row_in_reach : 0 < w.rows → there ≡ record { x = w.row.x +ℤ w.up.x; y = w.row.y +ℤ w.up.y }
      → IsInReach (record { across = w.across; up = w.up; columns = w.columns; at = w.row; in_row = w.columns; row = there; rows = w.rows - 1 })
  row_in_reach some e = record {
    across = r.across;
    flat = r.flat;
    up = r.up;
    straight = r.straight;
    some = r.some;
    columns = r.columns;
    in_row = r.columns;
    rows = omega arith;
    at_x = wider _ _ _ (reach_first w.columns r.columns) r.row_x;
    at_y = wider _ _ _ (reach_fewer w.rows) r.row_y;
    row_x = stays _ w.row.x w.up.x there.x (ap (λ (p : Point). p.x) e) r.straight r.row_x;
    row_y = goes w.rows w.row.y w.up.y there.y (ap (λ (p : Point). p.y) e) some r.rows r.row_y r.up.y;
  }

  pub place_in_reach : 0 < w.in_row → there ≡ record { x = w.at.x +ℤ w.across.x; y = w.at.y +ℤ w.across.y }
      → IsInReach (record { across = w.across; up = w.up; columns = w.columns; at = there; in_row = w.in_row - 1; row = w.row; rows = w.rows })
  place_in_reach some e = record {
    across = r.across;
    flat = r.flat;
    up = r.up;
    straight = r.straight;
    some = r.some;
    columns = r.columns;
    in_row = omega arith;
    rows = r.rows;
    at_x = goes w.in_row w.at.x w.across.x there.x (ap (λ (p : Point). p.x) e) some r.in_row r.at_x r.across.x;
    at_y = stays _ w.at.y w.across.y there.y (ap (λ (p : Point). p.y) e) r.flat r.at_y;
    row_x = r.row_x;
    row_y = r.row_y;
  }

  pub next_in_reach : IsPointWithin (reach 0) w.at
  next_in_reach = record { x = wider _ _ _ (reach_all w.in_row) r.at_x; y = wider _ _ _ (reach_all w.rows) r.at_y }
