use Rattle.std.proofs.Common.{◌++◌, drop, map}
use Rattle.line_laws.specs.Lines.{SameThings}
use Rattle.net_touches.specs.Barriers.{barrier_view}
use Rattle.followed_nets.proofs.taking_bars.take_bars.Given as goal

abbrev pub invariant-loop-bar : goal.invariant-loop-bar
invariant-loop-bar g l = SameThings (map barrier_view (drop l.bar-index l.gone) ++ map barrier_view l.fn.bars.items) (map barrier_view l.gone ++ map barrier_view l.bars.items)
