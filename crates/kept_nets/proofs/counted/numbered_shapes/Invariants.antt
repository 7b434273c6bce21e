use Rattle.std.proofs.Common.{◌≡◌, ◌+◌, ◌++◌, length, map}
use Rattle.net_lists.specs.NetViews.{net_view}
use Rattle.net_queries.specs.Held.{shapes_from}
use Rattle.placed_shapes.specs.Placed.{placed_shape}
use Rattle.kept_nets.proofs.counted.numbered_shapes.Given as goal

abbrev pub invariant-loop-part : goal.invariant-loop-part
invariant-loop-part g l =
    (map placed_shape l.shapes.items ++ shapes_from l.number l.left ≡ shapes_from 0 (net_view l.fn.net).parts)
    × (l.number + length l.left ≡ length (net_view l.fn.net).parts)

abbrev pub decreases-loop-part : goal.decreases-loop-part
decreases-loop-part g l = length l.left
