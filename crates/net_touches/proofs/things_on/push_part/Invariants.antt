use Rattle.std.proofs.Common.{◌≡◌, [], ◌++◌, drop, map}
use Rattle.connection_rules.specs.NetLines.{shapes_of_part}
use Rattle.net_lists.specs.NetViews.{net_with}
use Rattle.net_lists.specs.PartCuts.{shape_view}
use Rattle.net_touches.specs.ThingViews.{thing_view}
use Rattle.net_touches.specs.Things.{shapes_on}
use Rattle.net_touches.proofs.things_on.push_part.Given as goal

abbrev pub invariant-loop-shape : goal.invariant-loop-shape
invariant-loop-shape g l =
    map thing_view l.things.items ++ shapes_on l.layer.0 (shapes_of_part (net_with l.head []) (record { is_pin = l.part.is_pin; shapes = map shape_view (drop l.shape-index l.part.shapes.now) }))
    ≡ map thing_view l.initial.things.items ++ shapes_on l.layer.0 (shapes_of_part (net_with l.head []) (record { is_pin = l.part.is_pin; shapes = map shape_view l.part.shapes.now }))
