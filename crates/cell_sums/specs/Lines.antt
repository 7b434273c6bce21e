-- Lines in order, and what a stretch has in common with the columns, or rows, between them.
use Rattle.std.specs.Prelude.{ℕ, List, Option, Some, None, ℤ, Bool, ◌&&◌, nat_le, nat_lt, nat_abs, ◌-ℤ◌}
use Rattle.std.specs.Int.{int_max, int_min}
use Rattle.std.specs.List.{All}
use Rattle.std.specs.List.Sorted.{IsStrictlySortedBy}
use Rattle.std.specs.Ordering.{int_cmp}
use Rattle.design_model.specs.Ranges.{IsWithin}
use Rattle.measure_rules.specs.Density.{extent}
use Rattle.measure_rules.specs.GridCells.{between}

-- how far a line lies from 0 at most
abbrev pub farthest : ℕ
farthest = 2147483647

-- the lines of one axis of a grid
pub record AreLines (ls : List ℤ) : Type 0 where
  pub rise : IsStrictlySortedBy int_cmp ls
  pub near : All (IsWithin farthest) ls

-- the length that two lines have in common with a stretch from one place to another
abbrev pub length_shared : ℤ → ℤ → ℤ × ℤ → ℕ
length_shared low high (l, m) = extent (int_max l low) (int_min m high)

-- the same where there may be no such lines
abbrev pub shared_by : ℤ → ℤ → Option (ℤ × ℤ) → ℕ
shared_by low high (Some c) = length_shared low high c
shared_by low high None = 0

-- the length that the column of a number, or the row, has in common with it
abbrev pub common_length : List ℤ → ℤ → ℤ → ℕ → ℕ
common_length ls low high i = shared_by low high (between ls i)

-- the length from one line to another
abbrev pub width_by : Option (ℤ × ℤ) → ℕ
width_by (Some c) = nat_abs (c.1 -ℤ c.0)
width_by None = 0

-- the length of the column of a number, or of the row
abbrev pub width : List ℤ → ℕ → ℕ
width ls i = width_by (between ls i)

-- from a number up to, and without, another
abbrev pub is_from : ℕ → ℕ → ℕ → Bool
is_from first end i = nat_le first i && nat_lt i end
