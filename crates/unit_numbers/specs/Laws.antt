-- What the definitions of numbers and distances mean.
use Rattle.std.specs.Prelude.{◌≡◌, ◌≤◌, ℕ, ℤ, pos, true, List, length, Ok}
use Rattle.design_model.specs.Units.{IsNearest, are_digits, decimal_value, whole}

-- Each distance n / 10 ^ k has at u units per micron a nearest whole number, and only one.
abbrev pub NearestIsUnique : Type 0
NearestIsUnique = (n : ℤ) (k u : ℕ) → ((v : ℤ) × IsNearest n k u v) × ((v w : ℤ) → IsNearest n k u v → IsNearest n k u w → v ≡ w)

-- One to nine digits are a whole number, 0 or more.
abbrev pub FewDigitsAreWhole : Type 0
FewDigitsAreWhole = (w : List ℕ) → are_digits w ≡ true → length w ≤ 9 → whole w ≡ Ok (pos (decimal_value w))
