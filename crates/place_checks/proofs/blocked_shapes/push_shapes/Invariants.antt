use Rattle.std.proofs.Common.{◌≡◌, ◌++◌, map}
use Rattle.std.specs.List.{filter_map}
use Rattle.design_model.specs.Views.{rectangle_of}
use Rattle.place_parts.specs.BlockageViews.{blockage_shapes_of}
use Rattle.entry_rules.specs.Blocked.{rectangle_of_shape}
use Rattle.place_checks.proofs.blocked_shapes.push_shapes.Given as goal

abbrev pub invariant-loop-shape : goal.invariant-loop-shape
invariant-loop-shape g l =
    map rectangle_of l.found.items ++ filter_map rectangle_of_shape (blockage_shapes_of l.left) ≡ map rectangle_of l.fn.found.items ++ filter_map rectangle_of_shape (blockage_shapes_of l.fn.shapes)

abbrev pub decreases-loop-shape : goal.decreases-loop-shape
decreases-loop-shape g l = l.left.most
