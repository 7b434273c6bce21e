use Rattle.design_model.specs.Views.{rectangle_of}
use Rattle.wire_rules.specs.Paths.{across, stretch}
use Rattle.wire_shapes.proofs.Bits.{coordinate, size, word}
use Rattle.wire_shapes.proofs.Segments.{across_same, box_is, stretch_same}
use Rattle.wire_shapes.proofs.segment.along_x.Goals as goal

pub returns-clause-is : goal.returns-clause-is
returns-clause-is c =
    let a = c.args in
    let r = c.requires in
    box_is (stretch a.a.x a.past_a a.b.x a.past_b) (across a.a.y a.width) _ _ _ _ (rectangle_of c.box_of.result)
    (stretch_same (word a.a.x) (word a.past_a) (word a.b.x) (word a.past_b) a.a.x a.past_a a.b.x a.past_b _ _ (coordinate _ r.a.x) (size _ r.past_a) (coordinate _ r.b.x) (size _ r.past_b) c.stretch.ensures)
    (across_same (word a.a.y) (word a.width) a.a.y a.width _ _ (coordinate _ r.a.y) (size _ r.width) c.across.ensures)
    c.box_of.ensures
