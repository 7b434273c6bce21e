use Rattle.place_checks.proofs.HeightLemmas.{lines_near, one_rectangle, all_rectangles, turned_lines}
use Rattle.place_checks.proofs.blocked.blocked_of.Goals as goal

pub loop-rect-preserved : goal.loop-rect-preserved
loop-rect-preserved g c =
    let near = lines_near c.rect-item.result c.greatest_height-tallest.result _ _ _ c.greatest_height-tallest.ensures c.begin_below.ensures.those c.end_above-near.ensures in
    one_rectangle c.args.keep_outs.now c.args.boxes.now _ c.loop-rect.rect-index c.rect-item.result _ _ _ c.loop-rect-test.true c.rect-item.is near c.in-Ok.ensures c.loop-rect.invariant

pub returns : goal.returns
returns g c =
    turned_lines c.crosses_turn.ensures c.args.boxes.now c.args.keep_outs.now _ _
    (all_rectangles c.args.keep_outs.now c.args.boxes.now c.loop-rect.rect-index _ _ c.loop-rect-test.false c.loop-rect.invariant)
