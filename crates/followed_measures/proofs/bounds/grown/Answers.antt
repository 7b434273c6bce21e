use Rattle.std.proofs.Common.{◌∙◌, ◌++◌, ap, append-nil, map, sym}
use Rattle.std.proofs.lemmas.List.{take_all}
use Rattle.design_model.specs.Views.{rectangle_of}
use Rattle.measure_rules.specs.NetBoxes.{box_round}
use Rattle.followed_measures.proofs.BoxLemmas.{boxes_seen, one_grown, shape_box}
use Rattle.followed_measures.proofs.bounds.grown.Goals as goal

pub loop-shape-init : goal.loop-shape-init
loop-shape-init c = λ rest is. is ∙ ap box_round (sym (append-nil rest))

pub loop-shape-preserved : goal.loop-shape-preserved
loop-shape-preserved c = λ rest is.
    one_grown shape_box rectangle_of rest c.args.shapes.now c.loop-shape.shape-index c.shape-item.result c.loop-shape.bounds c.around_all.result c.loop-shape-test.true c.shape-item.is c.around_all.ensures
    (c.loop-shape.invariant rest is)

pub returns : goal.returns
returns c = λ rest is.
    let shapes = c.args.shapes.now in
    c.loop-shape.invariant rest is
    ∙ ap (λ ss. box_round (rest ++ map shape_box ss)) (take_all c.loop-shape.shape-index shapes c.loop-shape-test.false)
    ∙ ap (λ rs. box_round (rest ++ rs)) (sym (boxes_seen shapes))
