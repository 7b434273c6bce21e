-- Sums of cells along one axis of a layer, in two parts: areas by the cell, and heights of what reaches over chunks of 16 cells as a
-- whole, by the chunk.
use Rattle.std.specs.Prelude.{◌≡◌, ◌≤◌, ℕ, ℤ, ◌+◌, ◌*◌, ◌/◌, List}
use Rattle.cell_sums.specs.Blocks.{BlockSums, Gains, no_sums, sum_at}
use Rattle.cell_sums.specs.Lines.{width}

pub record SheetSums : Type 0 where
  pub cells : BlockSums
  pub chunks : BlockSums

abbrev pub no_totals : SheetSums
no_totals = record { cells = no_sums; chunks = no_sums }

-- the sum of the cell on a layer with a minor and a major number: its areas, and its length by the heights of its chunk
abbrev pub total : List ℤ → SheetSums → ℕ → ℕ → ℕ → ℕ
total lines s layer minor major = sum_at s.cells layer minor major + width lines minor * sum_at s.chunks layer (minor / 16) major

-- each sum has grown by what its cell gains,
pub record HasGrown (lines : List ℤ) (old new : SheetSums) (gains : Gains) : Type 0 where
  pub totals : (l i j : ℕ) → total lines new l i j ≡ total lines old l i j + gains l i j

-- or by no more than that
pub record HasGrownAtMost (lines : List ℤ) (old new : SheetSums) (gains : Gains) : Type 0 where
  pub totals : (l i j : ℕ) → total lines new l i j ≤ total lines old l i j + gains l i j
