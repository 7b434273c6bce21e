-- The limits of numbers in DEF statements (own).
use Rattle.std.specs.Prelude.{ℕ, ◌*◌, Bool, ◌&&◌, List, pos, ◌+ℤ◌, ◌-ℤ◌, ◌*ℤ◌, nat_abs, nat_le}
use Rattle.std.specs.Int.Signed.{le_z}
use Rattle.design_model.specs.Units.{whole}
use Rattle.def_grammar.specs.Numbers.{passes, int_of, is_count}

-- a width, a cut's side or space, or how far a wire goes past its end: at least 0
abbrev pub is_size : List ℕ → Bool
is_size w = is_count w

-- a number of vias in a line of an array: at least 1
unfoldable pub is_copies : List ℕ → Bool
is_copies w = passes (λ n. le_z (pos 1) n) (whole w)

-- the vias of an array are at most 1000000
unfoldable pub is_array : List ℕ → List ℕ → Bool
is_array columns rows = nat_le (nat_abs (int_of columns) * nat_abs (int_of rows)) 1000000

-- a number of cuts in a line of a generated via
unfoldable pub is_cuts : List ℕ → Bool
is_cuts w = passes (λ n. le_z (pos 1) n && le_z n (pos 1000000)) (whole w)

-- a number of lines of a grid
unfoldable pub is_lines : List ℕ → Bool
is_lines w = passes (λ n. le_z (pos 1) n && le_z n (pos 100000)) (whole w)

-- the last of some lines is within the range of numbers
unfoldable pub is_in_range : List ℕ → List ℕ → List ℕ → Bool
is_in_range start count step = le_z (int_of start +ℤ ((int_of count -ℤ pos 1) *ℤ int_of step)) (pos 2147483647)
