use Rattle.std.proofs.Common.{map}
use Rattle.std.specs.Int.{int_gap}
use Rattle.design_model.specs.Views.{rectangle_of}
use Rattle.orient_geom.proofs.Strips.{IsCoveredBelow}
use Rattle.orient_geom.proofs.covering.covered.Given as goal

abbrev pub invariant-loop-y : goal.invariant-loop-y
invariant-loop-y l = IsCoveredBelow (rectangle_of l.area) (map rectangle_of l.list) l.y

abbrev pub decreases-loop-y : goal.decreases-loop-y
decreases-loop-y l = int_gap l.y l.area.y2
