use Rattle.std.proofs.Common.{◌≡◌, ◌++◌, flat_map, length, map}
use Rattle.connection_rules.specs.NetLines.{shapes_of_part}
use Rattle.net_lists.specs.NetViews.{net_view}
use Rattle.net_touches.specs.ThingViews.{thing_view}
use Rattle.net_touches.specs.Things.{shapes_on}
use Rattle.net_touches.proofs.things_on.push_net.Given as goal

abbrev pub invariant-loop-part : goal.invariant-loop-part
invariant-loop-part g l =
    map thing_view l.things.items ++ shapes_on l.layer.0 (flat_map (shapes_of_part (net_view l.net)) l.left)
    ≡ map thing_view l.initial.things.items ++ shapes_on l.layer.0 (flat_map (shapes_of_part (net_view l.net)) (net_view l.net).parts)

abbrev pub decreases-loop-part : goal.decreases-loop-part
decreases-loop-part g l = length l.left
