use Rattle.std.proofs.Common.{◌≡◌}
use Rattle.cell_library.specs.ShapesLeft.{left_of, steps_of}
use Rattle.cell_library.proofs.macro_shapes.Walk.next_shape.Given as goal

abbrev pub invariant-loop-self : goal.invariant-loop-self
invariant-loop-self g l = left_of l.self ≡ left_of l.fn.self

abbrev pub decreases-loop-self : goal.decreases-loop-self
decreases-loop-self g l = steps_of l.self
