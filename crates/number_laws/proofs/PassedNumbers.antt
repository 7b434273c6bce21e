-- A word that passes a test of numbers is a number.
use Rattle.std.proofs.Common.{◌≡◌, ◌⊎◌, inl, inr, ℕ, Bool, true, false, ◌||◌, Result, Ok, Err, List, ℤ, refl}
use Rattle.design_model.specs.declared.number.NumFault.{NumFault}
use Rattle.design_model.specs.Units.{Distance, distance, whole}
use Rattle.def_grammar.specs.Limits.{is_copies, is_cuts, is_lines}
use Rattle.def_grammar.specs.Numbers.{passes, number_or_0, is_count, is_int, is_scale}
use Rattle.def_grammar.specs.Points.{is_coordinate, is_star}
use Rattle.lef_grammar.specs.Definitions.{distance_or_0, whole_or_0}
use Rattle.lef_grammar.specs.Extents as lef
use Rattle.lef_grammar.specs.Extents.{is_in_array, is_array_count, is_distance, is_extent}
use Rattle.number_laws.specs.PartNumbers.{Passes}
use Rattle.number_laws.specs.TestLaws.{IsNumber, PassedAreNumbers}

number : (t : ℤ → Bool) (r : Result ℤ NumFault) → passes t r ≡ true → r ≡ Ok (number_or_0 r)
number t (Ok n) e = refl
number t (Err f) e = absurd (cc)

distance_by : (t : ℤ → Bool) (r : Result Distance NumFault) → lef.passes t r ≡ true → r ≡ Ok (distance_or_0 r)
distance_by t (Ok d) e = refl
distance_by t (Err f) e = absurd (cc)

count_by : (r : Result ℤ NumFault) → is_in_array r ≡ true → r ≡ Ok (whole_or_0 r)
count_by (Ok n) e = refl
count_by (Err f) e = absurd (cc)

int_by : (w : List ℕ) → Passes is_int w → IsNumber w
unfolding is_int
int_by w e = number _ (whole w) e

star_or : (star : Bool) (w : List ℕ) → (star || is_int w) ≡ true → (star ≡ true) ⊎ IsNumber w
star_or true w e = inl refl
star_or false w e = inr (int_by w e)

coordinate_by : (w : List ℕ) → Passes is_coordinate w → (is_star w ≡ true) ⊎ IsNumber w
unfolding is_coordinate
coordinate_by w e = star_or (is_star w) w e

pub passed_are_numbers : PassedAreNumbers
unfolding is_scale is_count is_copies is_cuts is_lines is_distance is_extent is_array_count
passed_are_numbers w = record {
  int = int_by w;
  scale = number _ (whole w);
  count = number _ (whole w);
  copies = number _ (whole w);
  cuts = number _ (whole w);
  lines = number _ (whole w);
  coordinate = coordinate_by w;
  dec = distance_by _ (distance w);
  extent = distance_by _ (distance w);
  array_count = count_by (whole w);
}
