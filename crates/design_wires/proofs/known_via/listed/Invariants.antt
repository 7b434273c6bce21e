use Rattle.std.proofs.Common.{◌≡◌, ◌++◌, length, map}
use Rattle.design_wires.specs.KnownShapes.{near_view}
use Rattle.design_wires.specs.ViaRectsLeft.{rects_left}
use Rattle.design_wires.proofs.known_via.listed.Given as goal

abbrev pub invariant-loop-shape : goal.invariant-loop-shape
invariant-loop-shape g l = map near_view l.shapes ++ rects_left l.left ≡ rects_left l.initial.left

abbrev pub decreases-loop-shape : goal.decreases-loop-shape
decreases-loop-shape g l = length (rects_left l.left)
