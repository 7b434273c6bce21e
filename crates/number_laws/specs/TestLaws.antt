-- What the tests of numbers tell: a word that passes one is a number, so that the 0 that the definitions have for a word
-- that is none isn't met.
use Rattle.std.specs.Prelude.{◌≡◌, ◌⊎◌, ℕ, true, List, Ok}
use Rattle.design_model.specs.Units.{distance, whole}
use Rattle.def_grammar.specs.Limits.{is_copies, is_cuts, is_lines}
use Rattle.def_grammar.specs.Numbers.{int_of, is_count, is_int, is_scale}
use Rattle.def_grammar.specs.Points.{is_coordinate, is_star}
use Rattle.lef_grammar.specs.Definitions.{distance_read, whole_read}
use Rattle.lef_grammar.specs.Extents.{is_array_count, is_distance, is_extent}
use Rattle.number_laws.specs.PartNumbers.{Passes}

-- a word is the number, or the distance, that it is taken as
abbrev pub IsNumber : List ℕ → Type 0
IsNumber w = whole w ≡ Ok (int_of w)

abbrev pub IsDistance : List ℕ → Type 0
IsDistance w = distance w ≡ Ok (distance_read w)

pub record TestsTell (w : List ℕ) : Type 0 where
  pub int : Passes is_int w → IsNumber w
  pub scale : Passes is_scale w → IsNumber w
  -- and so is_size, which is the same test
  pub count : Passes is_count w → IsNumber w
  pub copies : Passes is_copies w → IsNumber w
  pub cuts : Passes is_cuts w → IsNumber w
  pub lines : Passes is_lines w → IsNumber w
  pub coordinate : Passes is_coordinate w → (is_star w ≡ true) ⊎ IsNumber w
  pub dec : Passes is_distance w → IsDistance w
  pub extent : Passes is_extent w → IsDistance w
  pub array_count : Passes is_array_count w → whole w ≡ Ok (whole_read w)

abbrev pub PassedAreNumbers : Type 0
PassedAreNumbers = (w : List ℕ) → TestsTell w
