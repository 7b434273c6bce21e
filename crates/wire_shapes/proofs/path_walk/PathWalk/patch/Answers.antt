use Rattle.std.proofs.Common.{arith}
use Rattle.design_model.specs.Views.{rectangle_of}
use Rattle.wire_shapes.proofs.Turned.{near_moved}
use Rattle.wire_shapes.proofs.path_walk.PathWalk.patch.Goals as goal

pub returns-clause-near : goal.returns-clause-near
returns-clause-near g c =
    near_moved _ _ (rectangle_of c.args.rect) (rectangle_of c.move_by-rect.result) c.args.self.now.place.at (omega arith) c.move_by-rect.ensures c.requires.near c.requires.reach.at
