use Rattle.std.proofs.Common.{arith}
use Rattle.net_classes.proofs.PartHeads.{length_parts}
use Rattle.net_classes.proofs.part_shapes.part_shapes.Goals as goal

pub overflow_add-number : goal.overflow_add-number
overflow_add-number g c =
    let count = length_parts c.args.net.now.parts.now c.args.net.now.shapes.now in
    omega (arith, count, c.loop-part.invariant.1)
