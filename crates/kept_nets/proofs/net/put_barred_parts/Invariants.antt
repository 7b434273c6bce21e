use Rattle.std.proofs.Common.{◌≡◌, [], ◌++◌, drop, flat_map, map}
use Rattle.design_model.specs.Families.{cross_lines}
use Rattle.connection_rules.specs.NetLines.{routeblock_of, shapes_of_part}
use Rattle.net_lists.specs.NetViews.{net_with}
use Rattle.net_touches.specs.Barriers.{barrier_view, name_at}
use Rattle.kept_nets.specs.Parts.{part_view}
use Rattle.kept_nets.proofs.net.put_barred_parts.Given as goal

abbrev pub invariant-loop-part : goal.invariant-loop-part
invariant-loop-part g l =
    let compare = routeblock_of (name_at (map (λ w. w.now) l.names)) in
    let bars = map barrier_view l.barriers in
    l.lines ++ cross_lines compare (flat_map (shapes_of_part (net_with l.head [])) (map part_view (drop l.part-index l.parts))) bars
    ≡ l.fn.lines ++ cross_lines compare (flat_map (shapes_of_part (net_with l.head [])) (map part_view l.parts)) bars
