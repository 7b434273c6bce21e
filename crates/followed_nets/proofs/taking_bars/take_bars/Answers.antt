use Rattle.std.proofs.Common.{rules, map}
use Rattle.net_touches.specs.Barriers.{barrier_view}
use Rattle.kept_nets.proofs.Taken.{taken_at}
use Rattle.followed_nets.proofs.taking_bars.take_bars.Goals as goal

pub loop-bar-preserved : goal.loop-bar-preserved
loop-bar-preserved g c =
    taken_at barrier_view c.args.gone.now c.loop-bar.bar-index c.bar-item.result (map barrier_view c.args.bars.now.items) (map barrier_view c.args.gone.now) (map barrier_view c.loop-bar.bars.items) (map barrier_view c.take_bar.new.bars.items)
    c.loop-bar-test.true c.bar-item.is c.loop-bar.invariant
    (c.take_bar.ensures.taken (search (rules, c.if-not-take_bar.false)))
