-- The lines of a statement along one axis.
use Rattle.std.specs.Prelude.{Bool, not, List, [], Option, Some, None, ℤ, if◌then◌else◌}
use Rattle.def_grammar.specs.Grids.{Axis, along_x, along_y, GcellGrid}
use Rattle.def_grammar.specs.Records.{Record, top}
use Rattle.def_grammar.specs.Top as tops
use Rattle.measure_rules.specs.GridCells.{lines_of}

-- an axis is x, or it isn't
abbrev pub is_along : Bool → Axis → Bool
is_along across along_x = across
is_along across along_y = not across

-- the grid of a statement
abbrev pub grid_of : Record → Option GcellGrid
grid_of (top (tops.gcell_grid g)) = Some g
grid_of _ = None

abbrev pub grid_along : Bool → Option GcellGrid → List ℤ
grid_along across None = []
grid_along across (Some g) = if is_along across g.axis then lines_of g.lines else []

abbrev pub lines_along : Bool → Record → List ℤ
lines_along across r = grid_along across (grid_of r)
