use Rattle.std.proofs.Common.{◌++◌, take}
use Rattle.line_laws.specs.Lines.{SameThings}
use Rattle.placed_shapes.specs.Placed.{at_place}
use Rattle.placed_shapes.proofs.placed.PlacedShapes.remove.Given as goal

abbrev pub invariant-loop-shape : goal.invariant-loop-shape
invariant-loop-shape g l = SameThings l.initial.self (at_place l.place (take l.shape-index l.shapes) ++ l.self)
