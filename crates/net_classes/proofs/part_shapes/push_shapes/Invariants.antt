use Rattle.std.proofs.Common.{◌≡◌, ◌++◌, map, take}
use Rattle.net_lists.specs.PartCuts.{shape_view}
use Rattle.net_classes.specs.PartShapes.{of_part, with_part}
use Rattle.net_classes.proofs.part_shapes.push_shapes.Given as goal

abbrev pub invariant-loop-shape : goal.invariant-loop-shape
invariant-loop-shape g l = map of_part l.found.items ≡ map of_part l.initial.found.items ++ with_part l.part (map shape_view (take l.shape-index l.shapes))
