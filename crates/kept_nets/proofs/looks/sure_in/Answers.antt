use Rattle.std.proofs.Common.{arith}
use Rattle.kept_nets.proofs.SureShapes.{in_part, next_summed, weigh}
use Rattle.kept_nets.proofs.looks.sure_in.Goals as goal

pub loop-shape-preserved : goal.loop-shape-preserved
loop-shape-preserved g c =
    next_summed weigh c.as_slice-own.result.now c.loop-shape.shape-index c.shape-item.result c.loop-shape.count _ _ _ c.loop-shape-test.true c.shape-item.is c.one_if_sure.ensures (let sum = c.saturating_add-count.ensures in omega (arith, sum)) c.loop-shape.invariant

pub returns : goal.returns
returns g c =
    let few = rw (c.as_slice-own.ensures.value) at c.loop-shape.invariant in
    let all = in_part c.args.part.now in
    omega (arith, few, all)
