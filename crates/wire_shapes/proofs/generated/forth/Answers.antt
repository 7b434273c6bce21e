use Rattle.std.proofs.Common.{arith}
use Rattle.std.proofs.lemmas.Int.{ints}
use Rattle.wire_shapes.proofs.Places.{point_is}
use Rattle.wire_shapes.proofs.generated.forth.Goals as goal

pub returns : goal.returns
returns c = point_is _ _ _ (omega (arith, ints)) (omega (arith, ints))
