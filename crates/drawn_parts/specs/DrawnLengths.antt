-- The lengths of what entries draw, as 64 bits hold them.
use Rattle.std.specs.Prelude.{ℕ, ◌-◌, ◌^◌, min, Option, Some, None}
use Rattle.connection_rules.specs.NetParts.{Wired}
use Rattle.measure_rules.specs.Lengths.{wired_length}

-- a number, and the greatest of 64 bits for each above that
abbrev pub capped : ℕ → ℕ
capped n = min n (2 ^ 64 - 1)

-- what one entry adds to a length
abbrev pub length_if : Option Wired → ℕ
length_if None = 0
length_if (Some w) = wired_length w
