use Rattle.std.proofs.Common.{rules, ◌∙◌}
use Rattle.std.proofs.lemmas.Iterator.{YieldsList-from_map, YieldsList-from_slice, items_from_collect}
use Rattle.std.proofs.lemmas.Iterator.Consumers.{YieldsList-at}
use Rattle.statement_boxes.specs.BoxShapes.{shape_of}
use Rattle.statement_boxes.proofs.BoxLists.{made_boxes, made_on_layer}
use Rattle.statement_boxes.proofs.boxes.StatementBoxes.of.Goals as goal

pub invariant_of-result : goal.invariant_of-result
invariant_of-result g c =
    let made = rw c.in_ok-shapes.was at (items_from_collect c.collect.result c.collect.ensures.ran (YieldsList-from_map _ shape_of (YieldsList-at c.map.ensures.source (YieldsList-from_slice c.args.boxes.now c.iter.ensures.rest)) c.map.ensures.closure (λ x r q k. search rules))) in
    made_on_layer c.in_ok-of.field-0.entries c.deref.result.now c.args.boxes.now c.in_ok-of.ensures (c.deref.ensures.value ∙ made)

pub returns : goal.returns
returns g c =
    let made = rw c.in_ok-shapes.was at (items_from_collect c.collect.result c.collect.ensures.ran (YieldsList-from_map _ shape_of (YieldsList-at c.map.ensures.source (YieldsList-from_slice c.args.boxes.now c.iter.ensures.rest)) c.map.ensures.closure (λ x r q k. search rules))) in
    made_boxes c.in_ok-of.field-0.entries c.deref.result.now c.args.boxes.now c.in_ok-of.ensures (c.deref.ensures.value ∙ made)
