use Rattle.std.proofs.Common.{sym}
use Rattle.wire_rules.specs.ViaShapes.{generated_shapes}
use Rattle.wire_shapes.specs.GeneratedViews.{generated_view}
use Rattle.wire_shapes.specs.RuleViews.{shape_view}
use Rattle.wire_shapes.proofs.Cuts.{drop_there}
use Rattle.wire_shapes.proofs.generated.GeneratedShapesLayerShapes.next.Goals as goal

pub returns : goal.returns
returns c =
    let s = c.args.self.now in
    (drop_there (generated_shapes (generated_view s.via)) s.given (shape_view c.in_ok-shape.shape) (sym c.in_ok-shape.ensures.is), c.in_ok-shape.ensures.near)
