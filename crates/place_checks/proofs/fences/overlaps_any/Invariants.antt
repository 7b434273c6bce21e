use Rattle.std.proofs.Common.{◌≡◌, drop, map}
use Rattle.std.specs.List.{list_any}
use Rattle.design_model.specs.Geometry.{overlap}
use Rattle.design_model.specs.Views.{rectangle_of}
use Rattle.place_checks.proofs.fences.overlaps_any.Given as goal

abbrev pub invariant-loop-rect : goal.invariant-loop-rect
invariant-loop-rect l = list_any (overlap (rectangle_of l.area)) (map rectangle_of (drop l.rect-index l.rectangles)) ≡ list_any (overlap (rectangle_of l.area)) (map rectangle_of l.rectangles)
