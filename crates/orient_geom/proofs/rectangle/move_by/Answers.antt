use Rattle.std.proofs.Common.{arith}
use Rattle.std.proofs.lemmas.Int.{ints}
use Rattle.design_model.specs.Views.{rectangle_of}
use Rattle.orient_geom.proofs.Placing.{moved_by}
use Rattle.orient_geom.proofs.rectangle.move_by.Goals as goal

pub returns : goal.returns
returns c =
    moved_by c.args.by.x c.args.by.y (rectangle_of c.args.rect) _ _ _ _
    (omega (arith, ints)) (omega (arith, ints)) (omega (arith, ints)) (omega (arith, ints))
