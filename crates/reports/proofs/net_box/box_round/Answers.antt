use Rattle.design_model.specs.Views.{rectangle_of}
use Rattle.reports.specs.MeasuredNets.{shape_box}
use Rattle.reports.proofs.BoxSteps.{box_grown, none_round}
use Rattle.reports.proofs.net_box.box_round.Goals as goal

pub loop-shape-init : goal.loop-shape-init
loop-shape-init c = none_round

pub loop-shape-preserved : goal.loop-shape-preserved
loop-shape-preserved c =
    box_grown shape_box rectangle_of c.boxes_grow.ensures c.args.shapes.now c.loop-shape.shape-index c.shape-item.result c.loop-shape.bounds c.around_all.result c.loop-shape-test.true c.shape-item.is c.around_all.ensures
    c.loop-shape.invariant
