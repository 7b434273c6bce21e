-- Sums that are kept in blocks of 64, each for neighbours along one axis of a layer. A cell has a minor number, which counts along that
-- axis, and a major number, which counts along the other: those of its column and its row, or of its row and its column.
use Rattle.std.specs.Prelude.{◌≡◌, ◌≤◌, ◌<◌, ◌^◌, length, ℕ, ℤ, ◌+◌, ◌-◌, ◌*◌, ◌/◌, ◌%◌, Bool, ◌&&◌, ◌==◌, List, [], Option, Some, None, if◌then◌else◌, slice_index}
use Rattle.std.specs.List.{position}
use Rattle.cell_sums.specs.Lines.{common_length, is_from}
use Rattle.cell_sums.specs.declared.runs.Run.{Run}
use Rattle.cell_sums.specs.declared.runs.Strip.{Strip}

-- the layer, the major number of a block's cells, and the block's number among those of one major number
abbrev pub Key : Type 0
Key = ℕ × ℕ × ℕ

-- blocks by their keys, and the sums of one block after the other, in two parts: what was added since the last spill, which is no more
-- than the most, and what was added before
pub record BlockSums : Type 0 where
  pub keys : List Key
  pub sums : List ℕ
  pub spilled : List ℕ
  pub most : ℕ

abbrev pub is_key : Key → Key → Bool
is_key a b = ((a.0 == b.0) && (a.1 == b.1)) && (a.2 == b.2)

abbrev pub no_sums : BlockSums
no_sums = record { keys = []; sums = []; spilled = []; most = 0 }

-- the place of a block among others
abbrev pub block_at : List Key → Key → Option ℕ
block_at keys k = position (is_key k) keys

-- a sum of the block at a place, of its two parts
abbrev pub sum_in : List ℕ → List ℕ → ℕ → Option ℕ → ℕ
sum_in sums spilled offset (Some n) = slice_index sums (n * 64 + offset) + slice_index spilled (n * 64 + offset)
sum_in sums spilled offset None = 0

-- the sum of the cell on a layer with a minor and a major number: 0 where it has no block
abbrev pub sum_at : BlockSums → ℕ → ℕ → ℕ → ℕ
sum_at b layer minor major = sum_in b.sums b.spilled (minor % 64) (block_at b.keys (layer, major, minor / 64))

-- 64 sums stand for each key; none is more than the most, and with what was spilled of it each fits 128 bits
pub record AreInBlocks (keys : List Key) (sums spilled : List ℕ) (most : ℕ) : Type 0 where
  pub stand : length keys * 64 ≤ length sums
  pub within : length spilled ≤ length sums
  pub bounded : (n : ℕ) → slice_index sums n ≤ most
  pub fit : (n : ℕ) → slice_index sums n + slice_index spilled n < 2 ^ 128

-- the same blocks have the same sums, in parts that may be others
pub record AreSame (old new : BlockSums) : Type 0 where
  pub keys : new.keys ≡ old.keys
  pub length : length new.sums ≡ length old.sums
  pub sums : (n : ℕ) → slice_index new.sums n + slice_index new.spilled n ≡ slice_index old.sums n + slice_index old.spilled n

-- what is added next may be so much
pub record HasRoom (b : BlockSums) (area : ℕ) : Type 0 where
  pub sums : (n : ℕ) → slice_index b.sums n + area ≤ b.most
  pub most : b.most < 2 ^ 64

-- what each cell of a layer, with a minor and a major number, has or gains
abbrev pub Gains : Type 0
Gains = ℕ → ℕ → ℕ → ℕ

-- what consecutive cells of one major number gain, each by its minor number
abbrev pub run_gains : Run → (ℕ → ℕ) → Gains
run_gains cells gain l i j = if (cells.layer == l) && ((cells.major == j) && is_from cells.first cells.end i) then gain i else 0

-- the areas that a cell and its neighbour gain, by how far a cell is behind the first of them
abbrev pub one_of_two : ℕ → ℕ → ℕ → ℕ
one_of_two area next_area n = if n == 0 then area else next_area

abbrev pub pair_gains : Run → ℕ → ℕ → Gains
pair_gains cells area next_area = run_gains cells (λ i. one_of_two area next_area (i - cells.first))

-- the area that a strip of a rectangle has in common with a cell
abbrev pub strip_area : List ℤ → Strip → ℕ → ℕ
strip_area lines strip i = common_length lines strip.low strip.high i * strip.height

-- what consecutive cells of one major number gain from a strip
abbrev pub strip_gains : List ℤ → Run → Strip → Gains
strip_gains lines cells strip = run_gains cells (strip_area lines strip)

-- each sum has grown by what its cell gains,
pub record HasGained (old new : BlockSums) (gains : Gains) : Type 0 where
  pub sums : (l i j : ℕ) → sum_at new l i j ≡ sum_at old l i j + gains l i j

-- or by no more than that
pub record HasGainedAtMost (old new : BlockSums) (gains : Gains) : Type 0 where
  pub sums : (l i j : ℕ) → sum_at new l i j ≤ sum_at old l i j + gains l i j
