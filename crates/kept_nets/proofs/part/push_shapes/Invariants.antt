use Rattle.std.proofs.Common.{◌≡◌, ◌++◌, drop, map}
use Rattle.net_lists.specs.PartCuts.{shape_view}
use Rattle.kept_nets.proofs.part.push_shapes.Given as goal

abbrev pub invariant-loop-shape : goal.invariant-loop-shape
invariant-loop-shape g l = map shape_view l.found.items ++ map shape_view (drop l.shape-index l.shapes) ≡ map shape_view l.fn.found.items ++ map shape_view l.shapes
