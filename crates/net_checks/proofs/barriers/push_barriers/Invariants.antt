use Rattle.std.proofs.Common.{◌≡◌, ◌++◌, drop, map}
use Rattle.design_model.specs.Views.{rectangle_of}
use Rattle.net_touches.specs.Barriers.{barrier_view}
use Rattle.net_checks.specs.BarrierViews.{as_barrier}
use Rattle.net_checks.proofs.barriers.push_barriers.Given as goal

abbrev pub invariant-loop-rect : goal.invariant-loop-rect
invariant-loop-rect g l =
    map barrier_view l.found.items ++ map (as_barrier l.layer.0 l.spares_power) (map rectangle_of (drop l.rect-index l.rects))
    ≡ map barrier_view l.fn.found.items ++ map (as_barrier l.layer.0 l.spares_power) (map rectangle_of l.rects)
