use Rattle.std.proofs.Common.{map}
use Rattle.std.specs.Int.{int_gap}
use Rattle.design_model.specs.Views.{rectangle_of}
use Rattle.orient_geom.proofs.Strips.{IsCoveredUpTo}
use Rattle.orient_geom.proofs.covering.covered_to.Given as goal

abbrev pub invariant-loop-x : goal.invariant-loop-x
invariant-loop-x l = IsCoveredUpTo (rectangle_of l.area) (map rectangle_of l.list) l.x l.y l.top

abbrev pub decreases-loop-x : goal.decreases-loop-x
decreases-loop-x l = int_gap l.x l.area.x2
