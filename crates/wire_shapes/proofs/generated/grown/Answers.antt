use Rattle.design_model.specs.Views.{rectangle_of}
use Rattle.wire_shapes.proofs.Cuts.{grown_is, within_grown}
use Rattle.wire_shapes.proofs.generated.grown.Goals as goal

pub returns-clause-near : goal.returns-clause-near
returns-clause-near c =
    let r = rectangle_of c.args.rect in
    let box = rectangle_of c.span.result in
    within_grown 200000000000000000 100000000000 c.args.by r box
    (grown_is c.args.by c.lower_left.result c.upper_right.result c.back.result c.forth.result r box c.lower_left.ensures c.upper_right.ensures c.back.ensures c.forth.ensures c.span.ensures)
    c.requires.near c.requires.by
