use Rattle.std.proofs.Common.{arith}
use Rattle.shape_index.specs.Shapes.{is_met, met_by}
use Rattle.shape_index.specs.TileOrder.{listed, once}
use Rattle.shape_index.proofs.MetSteps.{counted}
use Rattle.shape_index.proofs.OrderChanges.{same_count, same_met}
use Rattle.shape_index.proofs.tiled.TiledShapesShapeSet.for_met.Goals as goal

pub returns-clause-folded : goal.returns-clause-folded
returns-clause-folded g c =
    let es = once (listed c.self.inside.shapes c.self.inside.order.items) in
    (met_by c.args.layer c.args.rect es, rw (← c.self.view_is) (same_met c.args.layer c.args.rect es _ c.self.invariant.same), rw c.deref.ensures.value at c.search.ensures.folded)

pub returns-clause-least : goal.returns-clause-least
returns-clause-least g c =
    let es = once (listed c.self.inside.shapes c.self.inside.order.items) in
    rw (← c.self.view_is) (omega (arith, same_count c.args.layer c.args.rect es _ c.self.invariant.same, counted (is_met c.args.layer c.args.rect) es, rw c.deref.ensures.value at c.search.ensures.least))
