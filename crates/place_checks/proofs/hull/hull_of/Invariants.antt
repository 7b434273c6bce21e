use Rattle.std.proofs.Common.{◌≡◌, drop, map}
use Rattle.design_model.specs.Views.{rectangle_of}
use Rattle.place_checks.specs.Hulls.{hull_of, joined_all}
use Rattle.place_checks.proofs.hull.hull_of.Given as goal

abbrev pub invariant-loop-rect : goal.invariant-loop-rect
invariant-loop-rect l = joined_all (rectangle_of l.hull) (map rectangle_of (drop l.rect-index l.others)) ≡ hull_of (map rectangle_of l.rectangles)
