use Rattle.std.proofs.Common.{◌≡◌, ◌++◌, flat_map, length, map}
use Rattle.design_model.specs.Families.{cross_lines}
use Rattle.connection_rules.specs.NetLines.{routeblock_of, shapes_of_part}
use Rattle.net_lists.specs.NetViews.{net_view}
use Rattle.net_touches.specs.Barriers.{barrier_view, name_at}
use Rattle.net_queries.proofs.barred.put_barred_net.Given as goal

abbrev pub invariant-loop-part : goal.invariant-loop-part
invariant-loop-part g l =
    let compare = routeblock_of (name_at (map (λ w. w.now) l.names)) in
    let bars = map barrier_view l.barriers in
    l.lines ++ cross_lines compare (flat_map (shapes_of_part (net_view l.net)) l.left) bars ≡ l.fn.lines ++ cross_lines compare (flat_map (shapes_of_part (net_view l.net)) (net_view l.net).parts) bars

abbrev pub decreases-loop-part : goal.decreases-loop-part
decreases-loop-part g l = length l.left
