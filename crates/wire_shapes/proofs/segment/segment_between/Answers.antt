use Rattle.std.proofs.Common.{◌≡◌, ℤ, ◌∙◌}
use Rattle.design_model.specs.Views.{rectangle_of}
use Rattle.wire_rules.specs.Paths.{along_x, along_y}
use Rattle.wire_shapes.proofs.Bits.{distance, other_number, same_number, sizes}
use Rattle.wire_shapes.proofs.Segments.{lies_across, lies_in_x, lies_in_y}
use Rattle.wire_shapes.proofs.segment.segment_between.Goals as goal

pub returns-then-a-b-clause-is : goal.returns-then-a-b-clause-is
returns-then-a-b-clause-is c =
    let a = c.args in
    let r = c.requires in
    lies_in_x a.layer.now a.width a.a a.past_a a.b a.past_b _ _ (same_number _ _ r.a.y r.b.y c.if-a-b.true) (sizes (λ (p q w : ℤ). rectangle_of c.along_x-rect.result ≡ along_x a.a p a.b q w) a.past_a a.past_b a.width r.past_a r.past_b r.width c.along_x-rect.ensures.is) (c.abs_diff.ensures ∙ distance _ _ r.b.x r.a.x)

pub returns-then-a-b-2-clause-is : goal.returns-then-a-b-2-clause-is
returns-then-a-b-2-clause-is c =
    let a = c.args in
    let r = c.requires in
    lies_in_y a.layer.now a.width a.a a.past_a a.b a.past_b _ _ (other_number _ _ r.a.y r.b.y c.if-a-b.false) (same_number _ _ r.a.x r.b.x c.if-a-b-2.true) (sizes (λ (p q w : ℤ). rectangle_of c.along_y-rect.result ≡ along_y a.a p a.b q w) a.past_a a.past_b a.width r.past_a r.past_b r.width c.along_y-rect.ensures.is) (c.abs_diff-then-a-b-2.ensures ∙ distance _ _ r.b.y r.a.y)

pub returns-else-a-b-2-clause-is : goal.returns-else-a-b-2-clause-is
returns-else-a-b-2-clause-is c =
    let a = c.args in
    let r = c.requires in
    lies_across a.layer.now a.width a.a a.past_a a.b a.past_b (other_number _ _ r.a.y r.b.y c.if-a-b.false) (other_number _ _ r.a.x r.b.x c.if-a-b-2.false)
