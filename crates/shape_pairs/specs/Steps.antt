-- Steps of a size along a line.
use Rattle.std.specs.Prelude.{◌-◌, ◌/◌, ℕ, nat_lt, ℤ, nat_abs, ◌-ℤ◌, if◌then◌else◌}
use Rattle.std.specs.Int.Signed.{le_z}

-- how far a number lies past another
abbrev pub past : ℤ → ℤ → ℕ
past from x = if le_z x from then 0 else nat_abs (x -ℤ from)

abbrev pub clamped : ℕ → ℕ → ℕ
clamped count n = if nat_lt n count then n else count - 1

-- in which of so many steps of a size, from a number on, another lies; the first and the last take what lies outside
abbrev pub step_at : ℤ → ℕ → ℕ → ℤ → ℕ
step_at from size count x = clamped count (past from x / size)
