use Rattle.std.proofs.Common.{length}
use Rattle.wire_shapes.proofs.PathSteps.{Going}
use Rattle.wire_shapes.proofs.path_walk.PathWalk.next.Given as goal

abbrev pub invariant-loop-piece : goal.invariant-loop-piece
invariant-loop-piece g l = Going g.I.PathItems.items g.R.WiringMakings.rules g.S.LayerShapes.shapes l.fn.self l.piece l.self

abbrev pub decreases-loop-piece : goal.decreases-loop-piece
decreases-loop-piece g l = length (g.I.PathItems.items l.self.items)
