use Rattle.std.proofs.Common.{arith}
use Rattle.design_model.specs.Views.{rectangle_of}
use Rattle.wire_shapes.proofs.Cuts.{box_near, box_wider, within_moved}
use Rattle.wire_shapes.proofs.generated.metal.Goals as goal

pub move_by-requires-2-clause-near : goal.move_by-requires-2-clause-near
move_by-requires-2-clause-near c =
    box_near _ (rectangle_of c.move_by.result) (omega arith) (within_moved 200000100000000000 100000000000 c.args.offset (rectangle_of c.grown.result) (rectangle_of c.move_by.result) c.move_by.ensures c.grown.ensures.near c.requires.offset)

pub returns-clause-near : goal.returns-clause-near
returns-clause-near c =
    let first = within_moved 200000100000000000 100000000000 c.args.offset (rectangle_of c.grown.result) (rectangle_of c.move_by.result) c.move_by.ensures c.grown.ensures.near c.requires.offset in
    box_wider _ _ (rectangle_of c.move_by-2.result) (omega arith) (within_moved 200000200000000000 100000000000 c.args.origin (rectangle_of c.move_by.result) (rectangle_of c.move_by-2.result) c.move_by-2.ensures first c.requires.origin)
