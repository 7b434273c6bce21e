-- Sums of areas by the cells of a grid, layer by layer.
use Rattle.std.specs.Prelude.{◌≡◌, ℕ, ◌+◌, ◌*◌, ◌^◌, ◌<◌, ◌≤◌, ◌==◌, List, Some, ℤ, if◌then◌else◌}
use Rattle.design_model.specs.Geometry.{Rectangle}
use Rattle.measure_rules.specs.Density.{common_area}
use Rattle.measure_rules.specs.GridCells.{cell_among}
use Rattle.cell_sums.specs.Blocks.{Gains}
use Rattle.cell_sums.specs.Lines.{common_length}
use Rattle.cell_sums.specs.Sheets.{SheetSums, total}
use Rattle.cell_sums.specs.declared.stretch.Stretch.{Stretch}

-- a grid by its lines, how many rectangles were added, and the sums of its cells: what was added flat, along rows, and what was
-- added upright, along columns
pub record CellTable : Type 0 where
  pub columns : List ℤ
  pub rows : List ℤ
  pub added : ℕ
  pub flat : SheetSums
  pub upright : SheetSums

-- the sum of the cell on a layer in a column and a row
abbrev pub sums : CellTable → ℕ → ℕ → ℕ → ℕ
sums t layer column row = total t.columns t.flat layer column row + total t.rows t.upright layer row column

-- a grid of these columns and rows to which nothing was added
pub record IsNew (xs ys : List ℤ) (t : CellTable) : Type 0 where
  pub columns : t.columns ≡ xs
  pub rows : t.rows ≡ ys
  pub added : t.added ≡ 0
  pub sums : (l i j : ℕ) → sums t l i j ≡ 0

-- the rectangle of two stretches
abbrev pub spanned : Stretch → Stretch → Rectangle
spanned along across = record { x1 = along.low; y1 = across.low; x2 = along.high; y2 = across.high }

-- what the cells of a layer have in common with a rectangle, for sums along its x
abbrev pub rectangle_gains : List ℤ → List ℤ → ℕ → Rectangle → Gains
rectangle_gains columns rows layer r l i j = if layer == l then common_length columns r.x1 r.x2 i * common_length rows r.y1 r.y2 j else 0

-- no sum is more than so many areas, and these are so few that it fits 128 bits
pub record AreBounded (columns rows : List ℤ) (flat upright : SheetSums) (added : ℕ) : Type 0 where
  pub sums : (l i j : ℕ) → total columns flat l i j + total rows upright l j i ≤ added * 2 ^ 64
  pub few : added < 2 ^ 64

-- the grid stays, and each cell of a layer has grown by the area that it has in common with a rectangle
pub record Adds (layer : ℕ) (r : Rectangle) (old new : CellTable) : Type 0 where
  pub columns : new.columns ≡ old.columns
  pub rows : new.rows ≡ old.rows
  pub added : new.added ≡ old.added + 1
  pub sums : (l i j : ℕ) (cell : Rectangle) → cell_among old.columns old.rows i j ≡ Some cell → sums new l i j ≡ sums old l i j + (if layer == l then common_area cell r else 0)
