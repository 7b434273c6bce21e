use Rattle.wire_shapes.specs.ItemViews.{item_view}
use Rattle.wire_shapes.proofs.PathSteps.{at_end, end_left, went_on}
use Rattle.wire_shapes.proofs.path_walk.PathWalk.next.Goals as goal

pub returns-in_err-item-clause-gives : goal.returns-in_err-item-clause-gives
returns-in_err-item-clause-gives g c =
    let items = g.I.PathItems.items in
    let rules = g.R.WiringMakings.rules in
    let shapes = g.S.LayerShapes.shapes in
    rw (c.from_residual.ensures) (
      at_end items rules shapes c.args.self.now c.loop-piece.self c.loop-piece.piece c.loop-piece.invariant c.loop-piece-test.ensures c.in_err-item.ensures.0,
      end_left items rules shapes c.args.self.now c.loop-piece.self c.loop-piece.piece c.loop-piece.invariant c.loop-piece-test.ensures _ c.in_err-item.ensures.1,
    )

pub loop-piece-preserved : goal.loop-piece-preserved
loop-piece-preserved g c =
    let items = g.I.PathItems.items in
    let rules = g.R.WiringMakings.rules in
    let shapes = g.S.LayerShapes.shapes in
    went_on items rules shapes c.args.self.now c.loop-piece.self c.loop-piece.piece c.loop-piece.invariant c.loop-piece-test.ensures c.enter-piece.new.self (item_view c.in_ok-item.item) (items c.next.new.self) c.enter-piece.result
    c.in_ok-item.ensures.0 c.enter-piece.ensures.is c.enter-piece.ensures.done c.enter-piece.ensures.near c.enter-piece.ensures.reach
