use Rattle.std.proofs.Common.{◌≡◌, drop, map}
use Rattle.net_touches.specs.Barriers.{barrier_view}
use Rattle.followed_nets.specs.Blocked.{times_barred}
use Rattle.followed_nets.proofs.taking_bars.place_of.Given as goal

abbrev pub invariant-loop-place : goal.invariant-loop-place
invariant-loop-place l = times_barred (barrier_view l.bar) (map barrier_view (drop l.place l.bars)) ≡ 0
