use Rattle.std.proofs.Common.{arith}
use Rattle.kept_nets.proofs.SureShapes.{in_parts, next_summed, own_weight}
use Rattle.kept_nets.proofs.looks.sure_in_all.Goals as goal

pub loop-part-preserved : goal.loop-part-preserved
loop-part-preserved g c =
    next_summed own_weight c.args.parts.now c.loop-part.part-index c.part-item.result c.loop-part.count _ _ _ c.loop-part-test.true c.part-item.is c.sure_in.ensures (let sum = c.saturating_add-count.ensures in omega (arith, sum)) c.loop-part.invariant

pub returns : goal.returns
returns g c =
    let few = c.loop-part.invariant in
    let all = in_parts c.args.parts.now in
    omega (arith, few, all)
