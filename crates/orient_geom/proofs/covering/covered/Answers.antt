use Rattle.std.proofs.Common.{map, arith, sym}
use Rattle.std.proofs.lemmas.Int.{ints, to_z-of_z}
use Rattle.design_model.specs.Views.{rectangle_of}
use Rattle.orient_geom.proofs.Strips.{box_more, box_end}
use Rattle.orient_geom.proofs.covering.covered.Goals as goal

pub loop-y-preserved : goal.loop-y-preserved
loop-y-preserved c =
    let to = c.in-Some.ensures in
    grind (arith, to_z-of_z, box_more (rectangle_of c.args.area) (map rectangle_of c.args.list.now) _ _ c.loop-y.invariant to)

pub returns : goal.returns
returns c = sym (box_end _ _ _ c.loop-y.invariant (grind (arith, ints)))
