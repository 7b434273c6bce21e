-- Tables of what components stand in, of the program as lists of the definitions.
use Rattle.std.specs.Prelude.{List, ◌++◌, map}
use Rattle.std.specs.Option.{option_map}
use Rattle.design_model.specs.Views.{rectangle_of}
use Rattle.design_rules.specs.Surroundings.{Assignment, PlacedRow, Surroundings}
use Rattle.place_checks.specs.Patterns.{assigned_view, starred_view}
use Rattle.place_checks.specs.PlaceViews.{fence_view, placed_row_view}
use Rattle.place_checks.specs.declared.assignment_table.AssignmentTable.{AssignmentTable}
use Rattle.place_checks.specs.declared.row_index.RowIndex.{RowIndex}
use Rattle.place_checks.specs.declared.surroundings.Surroundings as code

-- the rows, in the order of the index
abbrev pub rows_view : {A : Type 0} → RowIndex A → List PlacedRow
rows_view index = map placed_row_view index.rows.items

-- the patterns, each by itself, in the order of the table
abbrev pub assignments_view : {A : Type 0} → AssignmentTable A → List Assignment
assignments_view table = map assigned_view table.named.items ++ map starred_view table.starred.items

abbrev pub surroundings_view : {A : Type 0} → code.Surroundings A → Surroundings
surroundings_view s = record { rows = rows_view s.rows; die = option_map rectangle_of s.die; fences = map fence_view s.fences.items; assignments = assignments_view s.assignments }
