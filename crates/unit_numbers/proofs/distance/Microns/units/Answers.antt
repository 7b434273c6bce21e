use Rattle.std.proofs.Common.{arith}
use Rattle.std.proofs.lemmas.Int.{ints}
use Rattle.std.specs.Int.{w64}
use mir.Val.{of_z, to_z}
use Rattle.unit_numbers.proofs.Rounding.{nearest_below, nearest_above}
use Rattle.unit_numbers.proofs.distance.Microns.units.Goals as goal

pub returns-then-self-lt0-clause-nearest : goal.returns-then-self-lt0-clause-nearest
returns-then-self-lt0-clause-nearest c =
    let z = c.args.self.value in
    let q = c.rounded-value.result.0 in
    let p = c.power.ensures in
    let r = c.rounded-value.ensures in
    nearest_below z (to_z w64 (of_z w64 z)) _ c.args.self.places c.args.per_micron c.power.result c.unsigned_abs.result q
    (omega (arith, ints, c.args.self.small, p.value, p.bound)) c.unsigned_abs.ensures.value p.value p.some r.value c.if-self-lt0.true (omega (arith, ints, r.bound))

pub returns-else-self-lt0-clause-nearest : goal.returns-else-self-lt0-clause-nearest
returns-else-self-lt0-clause-nearest c =
    let z = c.args.self.value in
    let q = c.rounded-value.result.0 in
    let p = c.power.ensures in
    let r = c.rounded-value.ensures in
    nearest_above z (to_z w64 (of_z w64 z)) _ c.args.self.places c.args.per_micron c.power.result c.unsigned_abs.result q
    (omega (arith, ints, c.args.self.small, p.value, p.bound)) c.unsigned_abs.ensures.value p.value p.some r.value c.if-self-lt0.false (omega (arith, ints, r.bound))
