use Rattle.std.proofs.Common.{arith}
use Rattle.std.proofs.lemmas.List.{get_or_default}
use Rattle.shape_index.proofs.Gapped.{spread_run}
use Rattle.shape_index.proofs.gaps.spread.Goals as goal

pub loop-slot-preserved : goal.loop-slot-preserved
loop-slot-preserved g c = record {
  spread = spread_run c.args.order.now c.loop-slot.spread.items c.push_spread.new.order.items c.loop-slot.slot c.past_run-slot.result _ c.past_run-slot.ensures (λ d. get_or_default c.args.order.now c.loop-slot.slot d _ c.loop-slot-test.true) c.in_ok-push_spread.ensures.pushed c.loop-slot.invariant.spread;
  room = omega (arith, c.loop-slot.invariant.room, c.push_spread.ensures.capacity);
}
