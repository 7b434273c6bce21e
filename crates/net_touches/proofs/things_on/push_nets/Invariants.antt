use Rattle.std.proofs.Common.{◌≡◌, ◌++◌, flat_map, length, map}
use Rattle.connection_rules.specs.NetLines.{shapes_of_net}
use Rattle.net_touches.specs.ThingViews.{thing_view}
use Rattle.net_touches.specs.Things.{shapes_on}
use Rattle.net_touches.proofs.things_on.push_nets.Given as goal

abbrev pub invariant-loop-net : goal.invariant-loop-net
invariant-loop-net g l =
    map thing_view l.things.items ++ shapes_on l.layer.0 (flat_map shapes_of_net l.left)
    ≡ map thing_view l.initial.things.items ++ shapes_on l.layer.0 (flat_map shapes_of_net l.nets)

abbrev pub decreases-loop-net : goal.decreases-loop-net
decreases-loop-net g l = length l.left
