use Rattle.std.proofs.Common.{◌≡◌, arith, ◌∙◌}
use Rattle.std.proofs.lemmas.Int.{ints}
use Rattle.std.specs.Int.{w64}
use mir.Val.{of_z, to_z}
use Rattle.unit_numbers.specs.Distances.{distance_of}
use Rattle.cell_library.proofs.UnitLemmas.{is_nearest}
use Rattle.cell_library.proofs.numbers.in_units.Goals as goal

pub returns-clause-units : goal.returns-clause-units
returns-clause-units c =
    let v = c.units.result.value in
    let back : to_z w64 (of_z w64 v) ≡ v = omega (arith, ints, c.units.ensures.bound) in
    back ∙ is_nearest (distance_of c.args.distance) c.args.per_micron v c.units.ensures.nearest
