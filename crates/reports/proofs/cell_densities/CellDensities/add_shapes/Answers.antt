use Rattle.net_lists.specs.PartCuts.{shape_view}
use Rattle.reports.proofs.DensitySteps.{next_more}
use Rattle.reports.proofs.cell_densities.CellDensities.add_shapes.Goals as goal

pub loop-shape-preserved : goal.loop-shape-preserved
loop-shape-preserved g c =
    next_more shape_view c.args.shapes.now c.loop-shape.shape-index c.shape-item.result c.args.self.now c.loop-shape.self c.add.new.self c.loop-shape-test.true c.shape-item.is c.loop-shape.invariant c.in_ok-add.ensures
