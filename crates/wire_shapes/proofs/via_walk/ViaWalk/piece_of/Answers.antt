use Rattle.std.proofs.Common.{arith}
use Rattle.design_model.specs.Views.{rectangle_of}
use Rattle.wire_shapes.proofs.Turned.{near_turned}
use Rattle.wire_shapes.proofs.via_walk.ViaWalk.piece_of.Goals as goal

pub returns-clause-near : goal.returns-clause-near
returns-clause-near g c =
    near_turned _ _ c.args.self.now.via.orient (rectangle_of c.args.shape.rect) (rectangle_of c.pin_rect-rect.result) c.args.self.now.at (omega arith) c.pin_rect-rect.ensures c.requires.near c.requires.at
