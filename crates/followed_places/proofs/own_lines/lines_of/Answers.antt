use Rattle.std.proofs.Common.{List, ap, arith, map, refl, ◌+◌, ◌++◌, ◌∙◌}
use Rattle.std.proofs.lemmas.List.{take_rest}
use Rattle.design_model.specs.Geometry.{Rectangle}
use Rattle.design_model.specs.Views.{rectangle_of}
use Rattle.design_model.specs.declared.identifier.StmtId.{StmtId}
use Rattle.place_checks.specs.IndexViews.{surroundings_view}
use Rattle.place_checks.specs.Views.{boxed_view}
use Rattle.statement_boxes.specs.Boxes.{met_count, near_count}
use Rattle.followed_places.specs.Lines.{boxed_under}
use Rattle.followed_places.specs.Placed.{placed_view}
use Rattle.followed_places.specs.Places.{place_under}
use Rattle.followed_places.specs.declared.components.Placed.{Placed}
use Rattle.followed_places.proofs.NearSums.{all_least, met_both, near_both, next_least, next_most}
use Rattle.followed_places.proofs.OthersMet.{ended, one_of_components}
use Rattle.followed_places.proofs.own_lines.lines_of.Goals as goal

pub loop-place-preserved : goal.loop-place-preserved
loop-place-preserved g c =
    let added = c.in_ok-put_own_lines.ensures in
    let pushed = rw take_rest at c.in_ok-push_components.ensures in
    let boxes = c.args.boxes.now in
    let outs = c.args.keep_outs.now in
    let box = rectangle_of c.index-components-place.result.component.rect in
    let compared = c.in_ok-found.found.compared + c.in_ok-blocking.blocking.compared in
    record {
      lines = λ ids are.
          one_of_components (surroundings_view c.args.around.now.surroundings) outs (boxed_under c.args.library.now c.args.around.now.scale c.args.text.now.pieces.table.slots ids)
          (map boxed_view c.in_ok-found.found.components.items) (map boxed_view c.deref.result.now) (map rectangle_of c.in_ok-blocking.blocking.rects.items) c.args.components.now c.loop-place.place c.index-components-place.result c.loop-place.lines c.put_own_lines.new.lines _
          c.loop-place-test.true c.index-components-place.is (c.in_ok-found.ensures.components ids are) c.in_ok-blocking.ensures.those
          (ap (map boxed_view) c.deref.ensures.value ∙ pushed) (rw c.deref-in-loop-place.ensures.value at added) (c.loop-place.invariant.lines ids are);
      tests = next_most (λ (b : StmtId × Rectangle). near_count b.1 (boxes ++ outs)) (λ (p : Placed). place_under (placed_view p)) (λ (ps : List Placed). map place_under (map placed_view ps)) refl (λ x xs. refl)
          c.args.components.now c.loop-place.place c.index-components-place.result c.loop-place.tests c.saturating_add-tests-in-loop-place.result compared _
          c.loop-place-test.true c.index-components-place.is (near_both box boxes outs _ _ c.in_ok-found.ensures.compared c.in_ok-blocking.ensures.compared) (omega arith) c.loop-place.invariant.tests;
      least = next_least (λ (b : StmtId × Rectangle). met_count b.1 (boxes ++ outs)) (λ (p : Placed). place_under (placed_view p)) (λ (ps : List Placed). map place_under (map placed_view ps)) refl (λ x xs. refl)
          c.args.components.now c.loop-place.place c.index-components-place.result c.loop-place.tests c.saturating_add-tests-in-loop-place.result compared _
          c.loop-place-test.true c.index-components-place.is (met_both box boxes outs _ _ c.in_ok-found.ensures.least c.in_ok-blocking.ensures.least) (omega arith) c.loop-place.invariant.least;
    }

pub returns-clause-lines : goal.returns-clause-lines
returns-clause-lines g c ids are =
    ended (surroundings_view c.args.around.now.surroundings) (map (λ (b : StmtId × Rectangle). b.1) c.args.keep_outs.now) (boxed_under c.args.library.now c.args.around.now.scale c.args.text.now.pieces.table.slots ids)
    c.args.components.now c.loop-place.place c.loop-place.lines _ c.loop-place-test.false (c.loop-place.invariant.lines ids are)

pub returns-clause-tests : goal.returns-clause-tests
returns-clause-tests g c = omega (arith, c.loop-place.invariant.tests)

pub returns-clause-least : goal.returns-clause-least
returns-clause-least g c =
    all_least (λ (b : StmtId × Rectangle). met_count b.1 (c.args.boxes.now ++ c.args.keep_outs.now)) (λ (p : Placed). place_under (placed_view p)) (λ (ps : List Placed). map place_under (map placed_view ps)) refl (λ x xs. refl)
    c.args.components.now c.loop-place.place c.loop-place.tests _ c.loop-place-test.false c.loop-place.invariant.least
