use Rattle.wire_shapes.proofs.Holding.{turning_vias_back}
use Rattle.wire_shapes.proofs.laws.turning_vias_back.Goals as goal

pub returns : goal.returns
returns c = turning_vias_back
