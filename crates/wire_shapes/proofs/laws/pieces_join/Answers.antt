use Rattle.wire_shapes.proofs.Joining.{pieces_join}
use Rattle.wire_shapes.proofs.laws.pieces_join.Goals as goal

pub returns : goal.returns
returns c = pieces_join
