use Rattle.std.proofs.Common.{arith}
use Rattle.net_classes.proofs.Pushing.{next_numbered}
use Rattle.net_classes.proofs.part_shapes.numbered.Goals as goal

pub loop-id-preserved : goal.loop-id-preserved
loop-id-preserved g c =
    next_numbered c.args.shapes.now c.loop-id.id c.index-shapes-id.result c.loop-id.items.items c.push.new.self.items
    c.loop-id.invariant (omega arith) c.index-shapes-id.is c.in_ok-push.ensures.items
