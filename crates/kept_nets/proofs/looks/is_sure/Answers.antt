use Rattle.std.proofs.Common.{◌≡◌, ◌∙◌, ◌==◌, ◌&&◌, Bool, true, sym, ap, arith}
use Rattle.design_model.specs.Views.{rectangle_of}
use Rattle.shape_rules.specs.Meeting.{meets}
use Rattle.shape_index.specs.Shapes.{is_met}
use Rattle.placed_shapes.specs.Placed.{stored}
use Rattle.kept_nets.proofs.looks.is_sure.Goals as goal

pub returns : goal.returns
returns c = λ yes.
    let shape = c.args.shape.now in
    let layer : (shape.layer.0 == shape.layer.0) ≡ true = grind arith in
    let met : is_met shape.layer shape.rect (record { 0 = 0 }, stored 0 shape) ≡ true = ap (λ (b : Bool). b && meets (rectangle_of shape.rect) (rectangle_of shape.rect)) layer ∙ sym c.meets.ensures ∙ yes in
    c.met_is_near.ensures shape.layer shape.rect (record { 0 = 0 }, stored 0 shape) met
