use Rattle.wire_shapes.proofs.Holding.{segment_holds_its_ends}
use Rattle.wire_shapes.proofs.laws.segment_holds_its_ends.Goals as goal

pub returns : goal.returns
returns c = segment_holds_its_ends
