use Rattle.std.proofs.Common.{◌≡◌, ◌++◌, drop, map, not}
use Rattle.std.specs.List.{flat_map}
use Rattle.connection_rules.specs.NetLines.{routeblock_of}
use Rattle.net_touches.specs.Barriers.{barrier_view, name_at}
use Rattle.net_touches.specs.ShapeViews.{net_shape}
use Rattle.net_queries.proofs.barred.put_barred_part.Given as goal

abbrev pub invariant-loop-shape : goal.invariant-loop-shape
invariant-loop-shape g l =
    l.lines ++ flat_map (λ s. flat_map (routeblock_of (name_at (map (λ w. w.now) l.names)) (net_shape s l.head (not l.part.is_pin))) (map barrier_view l.barriers)) (drop l.shape-index l.part.shapes.now)
    ≡ l.fn.lines ++ flat_map (λ s. flat_map (routeblock_of (name_at (map (λ w. w.now) l.names)) (net_shape s l.head (not l.part.is_pin))) (map barrier_view l.barriers)) l.part.shapes.now
