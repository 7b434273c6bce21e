use Rattle.std.proofs.Common.{rules, ◌<◌, ◌^◌, arith, length}
use Rattle.shape_index.proofs.Gapped.{none_nearer}
use Rattle.shape_index.proofs.gaps.nearest_gap.Goals as goal

pub loop-distance-preserved : goal.loop-distance-preserved
loop-distance-preserved c =
    let long : length c.args.order.now < 2 ^ 64 = search rules in
    none_nearer c.args.order.now c.args.place c.loop-distance.distance c.saturating_add-behind.result c.saturating_sub-before.result c.saturating_add-behind.ensures c.saturating_sub-before.ensures long c.loop-distance.invariant (λ gap. let t = c.is_gap.ensures.1 gap in let f = c.if-is_gap.false in cc) (λ gap. let t = c.is_gap-in-loop-distance.ensures.1 gap in let f = c.if-is_gap-2.false in cc)

pub returns-clause-none : goal.returns-clause-none
returns-clause-none c = λ full k gap. c.loop-distance.invariant k (omega (arith, c.reach-reach.ensures, full, gap.1, c.loop-distance-test.false)) (omega (arith, full, gap.0, c.requires, c.loop-distance-test.false)) gap
