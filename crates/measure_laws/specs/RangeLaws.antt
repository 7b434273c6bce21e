-- Laws of the ranges of cells and of densities.
use Rattle.std.specs.Prelude.{◌≡◌, ◌≤◌, ◌<◌, ℕ, ◌^◌, List, length, flat_map, ℤ, nat_abs, Some, Ok}
use Rattle.std.specs.List.{All}
use Rattle.design_model.specs.Geometry.{Rectangle}
use Rattle.design_model.specs.Ranges.{IsWithin}
use Rattle.def_grammar.specs.Records.{Record, read_def}
use Rattle.lef_grammar.specs.Measures.{Shape}
use Rattle.measure_rules.specs.Density.{area_of, density}
use Rattle.measure_rules.specs.GridCells.{cell_at, lines_along_x, lines_along_y}

-- a place in the range of numbers
abbrev pub IsInRange : ℤ → Type 0
IsInRange z = nat_abs z ≤ 2147483647

-- a cell in the range of numbers, whose area fits 64 bits
pub record CellFits (cell : Rectangle) : Type 0 where
  pub x1 : IsInRange cell.x1
  pub y1 : IsInRange cell.y1
  pub x2 : IsInRange cell.x2
  pub y2 : IsInRange cell.y2
  pub area : area_of cell < 2 ^ 64

-- So are the cells of a text that reads.
abbrev pub CellsFit : Type 0
CellsFit = (text : List ℕ) (design : List Record) → read_def text ≡ Ok design → (i j : ℕ) (cell : Rectangle) → cell_at design i j ≡ Some cell → CellFits cell

-- The density of such a cell fits 128 bits.
abbrev pub DensitiesFit : Type 0
DensitiesFit = (cell : Rectangle) → CellFits cell → (ss : List Shape) (layer : ℕ) → length ss < 2 ^ 64 → density ss layer cell < 2 ^ 128

-- And so are the lines of the statements that make its grid.
abbrev pub LinesFit : Type 0
LinesFit = (text : List ℕ) (design : List Record) → read_def text ≡ Ok design
    → All (IsWithin 2147483647) (flat_map lines_along_x design) × All (IsWithin 2147483647) (flat_map lines_along_y design)
