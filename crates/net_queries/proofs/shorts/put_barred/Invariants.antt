use Rattle.std.proofs.Common.{◌≡◌, ◌++◌, map, drop}
use Rattle.std.specs.List.{flat_map}
use Rattle.connection_rules.specs.NetLines.{routeblock_of}
use Rattle.net_touches.specs.Barriers.{barrier_view, name_at}
use Rattle.net_touches.specs.ShapeViews.{shape_view}
use Rattle.net_queries.proofs.shorts.put_barred.Given as goal

abbrev pub invariant-loop-barrier : goal.invariant-loop-barrier
invariant-loop-barrier g l =
    l.lines ++ flat_map (λ b. routeblock_of (name_at (map (λ w. w.now) l.names)) (shape_view l.shape) (barrier_view b)) (drop l.barrier-index l.barriers)
    ≡ l.fn.lines ++ flat_map (λ b. routeblock_of (name_at (map (λ w. w.now) l.names)) (shape_view l.shape) (barrier_view b)) l.barriers
