-- Distances without their signs, and what callers see of a distance.
use Rattle.std.specs.Prelude.{ℕ, ◌*◌, ◌^◌, ◌&&◌, nat_le, List, ◌++◌, length, Result, Ok, Err, if◌then◌else◌}
use Rattle.design_model.specs.declared.number.NumFault.{NumFault}
use Rattle.design_model.specs.declared.number.NumFault.TheVariants.{Form, Range}
use Rattle.design_model.specs.Units.{decimal_value, are_digits, Distance}
use Rattle.unit_numbers.specs.declared.distance.Microns.{Microns}

-- the digits before and behind a point as one number, and how many of them stand behind it
abbrev pub sized : List ℕ → List ℕ → Result (ℕ × ℕ) NumFault
sized before behind =
    if are_digits (before ++ behind) && nat_le (length behind) 12 then (if nat_le (decimal_value (before ++ behind)) (1000000 * 10 ^ length behind) then Ok (decimal_value (before ++ behind), length behind) else Err Range)
    else Err Form

-- a distance without the proofs of its bounds
abbrev pub distance_of : Microns → Distance
distance_of m = record { value = m.value; places = m.places }

abbrev pub distance_seen : Result Microns NumFault → Result Distance NumFault
distance_seen (Ok m) = Ok (distance_of m)
distance_seen (Err f) = Err f
