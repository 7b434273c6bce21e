use Rattle.std.proofs.Common.{map, take}
use Rattle.net_lists.specs.PartCuts.{shape_view}
use Rattle.reports.specs.Densities.{HoldsLess}
use Rattle.reports.proofs.cell_densities.CellDensities.take_shapes.Given as goal

abbrev pub invariant-loop-shape : goal.invariant-loop-shape
invariant-loop-shape g l = HoldsLess (map shape_view (take l.shape-index l.shapes)) l.initial.self l.self
