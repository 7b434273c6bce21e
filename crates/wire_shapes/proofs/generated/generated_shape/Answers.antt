use Rattle.std.proofs.Common.{arith}
use Rattle.design_model.specs.Views.{rectangle_of}
use Rattle.wire_shapes.proofs.Cuts.{box_wider, within_moved}
use Rattle.wire_shapes.proofs.generated.generated_shape.Goals as goal

pub returns-in-1-clause-near : goal.returns-in-1-clause-near
returns-in-1-clause-near c =
    box_wider _ _ (rectangle_of c.move_by.result) (omega arith)
    (within_moved 200000000000000000 100000000000 c.args.via.now.origin (rectangle_of c.cut_box-cuts.result) (rectangle_of c.move_by.result) c.move_by.ensures c.cut_box-cuts.ensures.near c.requires.origin)
