use Rattle.std.proofs.Common.{◌≡◌, ◌++◌, flat_map, length, map}
use Rattle.design_model.specs.Families.{cross_lines}
use Rattle.connection_rules.specs.NetLines.{routeblock_of, shapes_of_net}
use Rattle.net_touches.specs.Barriers.{barrier_view, name_at}
use Rattle.net_queries.proofs.barred.put_barred_nets.Given as goal

abbrev pub invariant-loop-net : goal.invariant-loop-net
invariant-loop-net g l =
    let compare = routeblock_of (name_at (map (λ w. w.now) l.names)) in
    let bars = map barrier_view l.barriers in
    l.lines ++ cross_lines compare (flat_map shapes_of_net l.left) bars ≡ l.fn.lines ++ cross_lines compare (flat_map shapes_of_net l.nets) bars

abbrev pub decreases-loop-net : goal.decreases-loop-net
decreases-loop-net g l = length l.left
