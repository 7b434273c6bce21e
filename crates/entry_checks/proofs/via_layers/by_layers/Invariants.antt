use Rattle.std.proofs.Common.{drop, map}
use Rattle.cell_library.specs.ShapeViews.{shapes_view}
use Rattle.entry_checks.specs.JoinedLayers.{Joins, layer_of}
use Rattle.entry_checks.proofs.via_layers.by_layers.Given as goal

abbrev pub invariant-loop-shape : goal.invariant-loop-shape
invariant-loop-shape g l = Joins l.library l.joined (map layer_of (map shapes_view (drop l.shape-index l.shapes))) (map layer_of (map shapes_view l.shapes))
