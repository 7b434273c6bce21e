use Rattle.std.proofs.Common.{◌≡◌, ◌++◌, drop, map}
use Rattle.placed_shapes.specs.Placed.{stored}
use Rattle.placed_shapes.proofs.placed.push_placed.Given as goal

abbrev pub invariant-loop-shape : goal.invariant-loop-shape
invariant-loop-shape g l = l.pushed.items ++ map (stored l.place) (drop l.shape-index l.shapes) ≡ l.initial.pushed.items ++ map (stored l.place) l.shapes
