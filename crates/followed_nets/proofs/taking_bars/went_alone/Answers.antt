use Rattle.std.proofs.Common.{rules, map}
use Rattle.net_touches.specs.Barriers.{barrier_view}
use Rattle.followed_nets.proofs.NotBoth.{next}
use Rattle.followed_nets.proofs.taking_bars.went_alone.Goals as goal

pub loop-bar-preserved : goal.loop-bar-preserved
loop-bar-preserved g c =
    let done = c.in_ok-take_or_push.ensures in (
      next barrier_view c.args.gone.now (map barrier_view c.args.come.now.items) c.loop-bar.bar-index c.bar-item.result (map barrier_view c.loop-bar.come.items) (map barrier_view c.loop-bar.left.items)
          (map barrier_view c.take_or_push.new.come.items) (map barrier_view c.take_or_push.new.left.items) c.loop-bar-test.true c.bar-item.is done.same c.loop-bar.invariant.0,
      done.apart c.loop-bar.invariant.1,
    )
