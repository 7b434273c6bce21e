use Rattle.design_model.specs.Views.{rectangle_of}
use Rattle.wire_rules.specs.Paths.{across, stretch}
use Rattle.wire_shapes.proofs.Bits.{coordinate, size, word}
use Rattle.wire_shapes.proofs.Segments.{across_same, box_is, stretch_same}
use Rattle.wire_shapes.proofs.segment.along_y.Goals as goal

pub returns-clause-is : goal.returns-clause-is
returns-clause-is c =
    let a = c.args in
    let r = c.requires in
    box_is (across a.a.x a.width) (stretch a.a.y a.past_a a.b.y a.past_b) _ _ _ _ (rectangle_of c.box_of.result)
    (across_same (word a.a.x) (word a.width) a.a.x a.width _ _ (coordinate _ r.a.x) (size _ r.width) c.across.ensures)
    (stretch_same (word a.a.y) (word a.past_a) (word a.b.y) (word a.past_b) a.a.y a.past_a a.b.y a.past_b _ _ (coordinate _ r.a.y) (size _ r.past_a) (coordinate _ r.b.y) (size _ r.past_b) c.stretch.ensures)
    c.box_of.ensures
