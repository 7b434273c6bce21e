-- Sizes and numbers of wires and vias where a number is given that is none. The grammar of DEF and LEF writes no size below 0
-- and no larger array, so that these definitions change nothing in a text that reads.
use Rattle.std.specs.Prelude.{ℕ, ◌*◌, nat_lt, nat_le, Bool, ◌&&◌, ℤ, pos, if◌then◌else◌}
use Rattle.std.specs.Int.Signed.{le_z}
use Rattle.design_model.specs.declared.geometry.Point.{Point}

-- a length: one below 0 is none
abbrev pub as_size : ℤ → ℤ
as_size z = if le_z (pos 0) z then z else pos 0

abbrev pub as_sizes : Point → Point
as_sizes p = record { x = as_size p.x; y = as_size p.y }

-- the cuts in a line of a generated via: 1 to 1000000, and else one
abbrev pub as_cuts : ℤ → ℤ
as_cuts n = if le_z (pos 1) n && le_z n (pos 1000000) then n else pos 1

-- columns and rows of vias, at most 1000000 vias in all
abbrev pub is_array : ℕ → ℕ → Bool
is_array columns rows =
    (nat_lt 0 columns && nat_lt 0 rows) && ((nat_le columns 1000000 && nat_le rows 1000000) && nat_le (columns * rows) 1000000)
