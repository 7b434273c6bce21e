use Rattle.std.proofs.Common.{map}
use Rattle.connection_rules.specs.NetLines.{routeblock_of}
use Rattle.net_touches.specs.Barriers.{barrier_view, name_at}
use Rattle.net_touches.specs.ShapeViews.{shape_view}
use Rattle.net_queries.proofs.ShortSums.{all_put, next_put}
use Rattle.net_queries.proofs.shorts.put_barred.Goals as goal

pub loop-barrier-preserved : goal.loop-barrier-preserved
loop-barrier-preserved g c =
    next_put (λ b. routeblock_of (name_at (map (λ w. w.now) c.args.names.now)) (shape_view c.args.shape.now) (barrier_view b)) c.args.barriers.now c.loop-barrier.barrier-index c.barrier-item.result
    _ _ _ c.loop-barrier-test.true c.barrier-item.is c.in_ok-put_routeblock.ensures c.loop-barrier.invariant

pub returns : goal.returns
returns g c =
    all_put (routeblock_of (name_at (map (λ w. w.now) c.args.names.now)) (shape_view c.args.shape.now)) barrier_view c.args.barriers.now c.loop-barrier.barrier-index _ _ c.loop-barrier-test.false c.loop-barrier.invariant
