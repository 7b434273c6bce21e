use Rattle.std.proofs.Common.{map, take}
use Rattle.net_touches.specs.Layers.{IsNext}
use Rattle.net_touches.proofs.layers.next_of_shapes.Given as goal

abbrev pub invariant-loop-shape : goal.invariant-loop-shape
invariant-loop-shape l = IsNext l.after (map (λ s. s.layer.0) (take l.shape-index l.shapes)) l.next
