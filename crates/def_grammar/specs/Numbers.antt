-- Whole numbers in DEF statements (LEF/DEF 5.8 Language Reference, "DEF Syntax"; the limits are own).
use Rattle.std.specs.Prelude.{ℕ, ℤ, pos, Bool, true, false, ◌&&◌, List, Result, Ok, Err}
use Rattle.std.specs.Int.Signed.{le_z}
use Rattle.design_model.specs.declared.number.NumFault.{NumFault}
use Rattle.design_model.specs.Units.{whole}

-- a word is a number that passes a test
abbrev pub passes : (ℤ → Bool) → Result ℤ NumFault → Bool
passes test (Ok n) = test n
passes test (Err e) = false

-- the number that a word is, and 0 where it is none
abbrev pub number_or_0 : Result ℤ NumFault → ℤ
number_or_0 (Ok n) = n
number_or_0 (Err e) = pos 0

abbrev pub int_of : List ℕ → ℤ
int_of w = number_or_0 (whole w)

unfoldable pub is_int : List ℕ → Bool
is_int w = passes (λ n. true) (whole w)

-- database units per micron
unfoldable pub is_scale : List ℕ → Bool
is_scale w = passes (λ n. le_z (pos 1) n && le_z n (pos 100000)) (whole w)

-- a number of entries
unfoldable pub is_count : List ℕ → Bool
is_count w = passes (λ n. le_z (pos 0) n) (whole w)
