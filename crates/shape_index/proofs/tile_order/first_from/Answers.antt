use Rattle.std.proofs.Common.{arith}
use Rattle.shape_index.proofs.EntryOrder.{chained, not_later}
use Rattle.shape_index.proofs.tile_order.first_from.Goals as goal

pub loop-low-preserved-then-stands_before : goal.loop-low-preserved-then-stands_before
loop-low-preserved-then-stands_before g c = record {
  behind = omega (arith, c.loop-low.invariant.behind);
  below = omega arith;
  within = c.loop-low.invariant.within;
  passed = λ k d low under. chained _ _ _ (c.requires.in_order k _ d (omega (arith, under)) (omega (arith, c.requires.all_there, c.loop-low.invariant.within))) ((c.stands_before.ensures d).0 c.if-stands_before.true);
  left = c.loop-low.invariant.left;
}

pub loop-low-preserved : goal.loop-low-preserved
loop-low-preserved g c = record {
  behind = c.loop-low.invariant.behind;
  below = omega arith;
  within = omega (arith, c.loop-low.invariant.within);
  passed = c.loop-low.invariant.passed;
  left = λ k d over within. not_later _ _ _ (c.requires.in_order _ k d over (omega (arith, c.requires.all_there, within))) (λ h. let t = (c.stands_before.ensures d).1 h in let f = c.if-stands_before.false in cc);
}
