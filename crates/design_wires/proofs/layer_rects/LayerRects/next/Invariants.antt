use Rattle.std.proofs.Common.{◌≡◌, length}
use Rattle.design_wires.specs.ViaRectsLeft.{layers_left}
use Rattle.design_wires.proofs.layer_rects.LayerRects.next.Given as goal

abbrev pub invariant-loop-shapes : goal.invariant-loop-shapes
invariant-loop-shapes g l = layers_left l.self ≡ layers_left l.fn.self

abbrev pub decreases-loop-shapes : goal.decreases-loop-shapes
decreases-loop-shapes g l = length l.self.later.now
