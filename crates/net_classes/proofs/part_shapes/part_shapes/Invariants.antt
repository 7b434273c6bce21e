use Rattle.std.proofs.Common.{◌≡◌, ◌+◌, ◌++◌, map, length}
use Rattle.net_lists.specs.NetViews.{net_view}
use Rattle.net_classes.specs.PartShapes.{of_part, shapes_from}
use Rattle.net_classes.proofs.part_shapes.part_shapes.Given as goal

abbrev pub invariant-loop-part : goal.invariant-loop-part
invariant-loop-part g l =
    (map of_part l.found.items ++ shapes_from l.number l.left ≡ shapes_from 0 (net_view l.fn.net).parts)
    × (l.number + length l.left ≡ length (net_view l.fn.net).parts)

abbrev pub decreases-loop-part : goal.decreases-loop-part
decreases-loop-part g l = length l.left
