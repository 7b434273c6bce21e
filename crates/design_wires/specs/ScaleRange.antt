-- How many database units a micron can have.
use Rattle.std.specs.Prelude.{ℕ, nat_le, ◌&&◌, Option, Some, None, if◌then◌else◌}

-- 1 to 100000 of them
abbrev pub if_in_range : ℕ → Option ℕ
if_in_range n = if nat_le 1 n && nat_le n 100000 then Some n else None
