use Rattle.std.proofs.Common.{length}
use Rattle.named_shapes.proofs.Gathered.{Gathered}
use Rattle.named_shapes.proofs.shapes.NamedShapes.of.Given as goal

abbrev pub invariant-loop-net : goal.invariant-loop-net
invariant-loop-net g l = Gathered l.names l.shapes.items l.left l.nets

abbrev pub decreases-loop-net : goal.decreases-loop-net
decreases-loop-net g l = length l.left
