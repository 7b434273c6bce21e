-- How dense the cells of the grid are: the areas that shapes, or components that take part, have in common with a cell, overlaps
-- counted each time (own).
use Rattle.std.specs.Prelude.{ℕ, ◌*◌, ◌==◌, nat_lt, List, map, length, Option, None, ℤ, pos, nat_abs, ◌-ℤ◌, if◌then◌else◌}
use Rattle.std.specs.List.{sum_by}
use Rattle.std.specs.Int.{int_max}
use Rattle.std.specs.Option.{option_map}
use Rattle.design_model.specs.Geometry.{Rectangle}
use Rattle.shape_rules.specs.Meeting.{shared}
use Rattle.def_grammar.specs.Records.{Record}
use Rattle.lef_grammar.specs.Library.{Library}
use Rattle.lef_grammar.specs.Measures.{Shape}
use Rattle.connection_rules.specs.NetLines.{NetShape, net_shapes}
use Rattle.design_rules.specs.Boxes.{Boxed, boxes, scale}
use Rattle.measure_rules.specs.GridCells.{cell_at}

-- how far it is from one place to another, where that isn't before it
abbrev pub extent : ℤ → ℤ → ℕ
extent lo hi = nat_abs (int_max (pos 0) (hi -ℤ lo))

-- the area that two rectangles have in common
abbrev pub area_of : Rectangle → ℕ
area_of r = extent r.x1 r.x2 * extent r.y1 r.y2

abbrev pub common_area : Rectangle → Rectangle → ℕ
common_area a b = area_of (shared a b)

-- what a shape on a layer adds to a cell
abbrev pub area_on : ℕ → Rectangle → Shape → ℕ
area_on layer cell s = if s.layer == layer then common_area cell s.box else 0

abbrev pub density : List Shape → ℕ → Rectangle → ℕ
density shapes layer cell = sum_by (area_on layer cell) shapes

module _ (library : Library) (design : List Record) where
  -- the density of a cell on the layer at a place among the library's, where there are both
  abbrev pub cell_density : ℕ → ℕ → ℕ → Option ℕ
  cell_density i j layer =
      if nat_lt layer (length library.layers) then option_map (density (map (λ (s : NetShape). s.shape) (net_shapes library design (scale design))) layer) (cell_at design i j)
      else None

  -- the same over the boxes of components that take part
  abbrev pub place_density : ℕ → ℕ → Option ℕ
  place_density i j = option_map (λ cell. sum_by (λ (b : Boxed). common_area cell b.box) (boxes library design)) (cell_at design i j)
