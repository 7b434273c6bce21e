use Rattle.std.proofs.Common.{arith, map, refl}
use Rattle.design_model.specs.Geometry.{Rectangle}
use Rattle.design_model.specs.declared.identifier.StmtId.{StmtId}
use Rattle.statement_boxes.specs.Boxes.{box_view, met_count, near_count}
use Rattle.followed_places.specs.Lines.{boxed_under}
use Rattle.followed_places.proofs.BlockedLemmas.{ended, one_of_rectangles}
use Rattle.followed_places.proofs.NearSums.{all_least, next_least, next_most}
use Rattle.followed_places.proofs.blocked_lines.blocked_near.Goals as goal

pub loop-keep_out-preserved : goal.loop-keep_out-preserved
loop-keep_out-preserved g c = record {
  lines = λ ids are.
      one_of_rectangles (boxed_under c.args.library.now c.args.scale c.args.text.now.pieces.table.slots ids) c.in_ok-found.found.components.items c.args.keep_outs.now c.loop-keep_out.keep_out-index c.keep_out-item.result
      c.loop-keep_out.lines _ _ c.loop-keep_out-test.true c.keep_out-item.is (c.in_ok-found.ensures.components ids are) (rw (c.deref.ensures.value) at c.in_ok-put_blockage.ensures) (c.loop-keep_out.invariant.lines ids are);
  tests = next_most (λ (b : StmtId × Rectangle). near_count b.1 c.args.boxes.now) box_view (map box_view) refl (λ x xs. refl) c.args.keep_outs.now c.loop-keep_out.keep_out-index c.keep_out-item.result c.loop-keep_out.tests c.saturating_add-tests.result c.in_ok-found.found.compared _
      c.loop-keep_out-test.true c.keep_out-item.is c.in_ok-found.ensures.compared (omega arith) c.loop-keep_out.invariant.tests;
  least = next_least (λ (b : StmtId × Rectangle). met_count b.1 c.args.boxes.now) box_view (map box_view) refl (λ x xs. refl) c.args.keep_outs.now c.loop-keep_out.keep_out-index c.keep_out-item.result c.loop-keep_out.tests c.saturating_add-tests.result c.in_ok-found.found.compared _
      c.loop-keep_out-test.true c.keep_out-item.is c.in_ok-found.ensures.least (omega arith) c.loop-keep_out.invariant.least;
}

pub returns-clause-lines : goal.returns-clause-lines
returns-clause-lines g c ids are =
    ended c.crosses_turn.ensures (boxed_under c.args.library.now c.args.scale c.args.text.now.pieces.table.slots ids) c.args.keep_outs.now c.loop-keep_out.keep_out-index _ c.loop-keep_out.lines c.loop-keep_out-test.false (c.loop-keep_out.invariant.lines ids are)

pub returns-clause-tests : goal.returns-clause-tests
returns-clause-tests g c = omega (arith, c.loop-keep_out.invariant.tests)

pub returns-clause-least : goal.returns-clause-least
returns-clause-least g c = all_least (λ (b : StmtId × Rectangle). met_count b.1 c.args.boxes.now) box_view (map box_view) refl (λ x xs. refl) c.args.keep_outs.now c.loop-keep_out.keep_out-index c.loop-keep_out.tests _ c.loop-keep_out-test.false c.loop-keep_out.invariant.least
