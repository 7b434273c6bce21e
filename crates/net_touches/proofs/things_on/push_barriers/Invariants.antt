use Rattle.std.proofs.Common.{◌≡◌, ◌++◌, drop, map}
use Rattle.net_touches.specs.Barriers.{barrier_view}
use Rattle.net_touches.specs.ThingViews.{thing_view}
use Rattle.net_touches.specs.Things.{barriers_on}
use Rattle.net_touches.proofs.things_on.push_barriers.Given as goal

abbrev pub invariant-loop-barrier : goal.invariant-loop-barrier
invariant-loop-barrier g l =
    map thing_view l.things.items ++ barriers_on l.layer.0 (map barrier_view (drop l.barrier-index l.barriers))
    ≡ map thing_view l.initial.things.items ++ barriers_on l.layer.0 (map barrier_view l.barriers)
