use Rattle.std.proofs.Common.{◌++◌, drop, map}
use Rattle.line_laws.specs.Lines.{SameThings}
use Rattle.net_touches.specs.Barriers.{barrier_view}
use Rattle.followed_nets.specs.Blocked.{AreNotBoth}
use Rattle.followed_nets.proofs.taking_bars.went_alone.Given as goal

abbrev pub invariant-loop-bar : goal.invariant-loop-bar
invariant-loop-bar g l = SameThings (map barrier_view l.gone ++ map barrier_view l.come.items) (map barrier_view (drop l.bar-index l.gone) ++ (map barrier_view l.fn.come.items ++ map barrier_view l.left.items))
    × AreNotBoth (map barrier_view l.left.items) (map barrier_view l.come.items)
