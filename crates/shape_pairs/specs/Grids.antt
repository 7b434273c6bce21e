-- Bins of a grid: where a rectangle lies, and where two are at home.
use Rattle.std.specs.Prelude.{◌+◌, ◌-◌, ◌*◌, ◌^◌, ℕ, ℤ, List, flat_map}
use Rattle.design_model.specs.Geometry.{Rectangle}
use Rattle.shape_rules.specs.Classes.{numbers}
use Rattle.shape_rules.specs.Meeting.{shared}
use Rattle.shape_pairs.specs.declared.grid.Grid.{Grid}
use Rattle.shape_pairs.specs.Steps.{step_at}

-- the numbers from one to another
abbrev pub between : ℕ → ℕ → List ℕ
between a b = numbers a (b + 1 - a)

module _ (grid : Grid) where
  abbrev pub column_at : ℤ → ℕ
  column_at x = step_at grid.left (2 ^ grid.log_side) grid.columns x

  abbrev pub row_at : ℤ → ℕ
  row_at y = step_at grid.bottom (2 ^ grid.log_side) grid.rows y

  -- the number of a bin: row by row
  abbrev pub bin_at : ℕ → ℕ → ℕ
  bin_at column row = row * grid.columns + column

  abbrev pub bin_count : ℕ
  bin_count = grid.rows * grid.columns

  -- the bins of one row that a rectangle covers
  abbrev pub row_bins : Rectangle → ℕ → List ℕ
  row_bins r row = between (bin_at (column_at r.x1) row) (bin_at (column_at r.x2) row)

  -- the bins that a rectangle covers
  abbrev pub covered : Rectangle → List ℕ
  covered r = flat_map (row_bins r) (between (row_at r.y1) (row_at r.y2))

  -- the bin of the lower left corner of what two rectangles share
  abbrev pub home : Rectangle → Rectangle → ℕ
  home a b = bin_at (column_at (shared a b).x1) (row_at (shared a b).y1)
