use Rattle.std.proofs.Common.{◌≡◌, ◌++◌, drop, map}
use Rattle.net_lists.specs.PartCuts.{shape_view}
use Rattle.net_touches.specs.Barriers.{barrier_view}
use Rattle.followed_nets.specs.Tests.{bar_shape}
use Rattle.followed_nets.proofs.blocked.push_shapes.Given as goal

abbrev pub invariant-loop-bar : goal.invariant-loop-bar
invariant-loop-bar g l = map shape_view l.shapes.items ++ map bar_shape (map barrier_view (drop l.bar-index l.bars)) ≡ map shape_view l.fn.shapes.items ++ map bar_shape (map barrier_view l.bars)
