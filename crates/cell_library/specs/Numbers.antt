-- Points and rectangles of the program as those of the definitions.
use Rattle.std.specs.Prelude.{ℕ, ◌≤◌, nat_abs}
use Rattle.design_model.specs.Geometry.{Rectangle}
use Rattle.lef_grammar.specs.Definitions.{Distances}
use Rattle.unit_numbers.specs.Distances.{distance_of}
use Rattle.cell_library.specs.declared.numbers.MicronPoint.{MicronPoint}
use Rattle.cell_library.specs.declared.numbers.MicronRect.{MicronRect}

abbrev pub point_view : MicronPoint → Distances
point_view p = (distance_of p.x, distance_of p.y)

abbrev pub rectangle_view : MicronRect → Distances × Distances
rectangle_view r = (point_view r.from, point_view r.to)

-- each number of a rectangle lies within plus or minus n
pub record IsWithin (n : ℕ) (r : Rectangle) : Type 0 where
  pub x1 : nat_abs r.x1 ≤ n
  pub y1 : nat_abs r.y1 ≤ n
  pub x2 : nat_abs r.x2 ≤ n
  pub y2 : nat_abs r.y2 ≤ n
