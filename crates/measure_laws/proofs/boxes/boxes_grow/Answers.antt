use Rattle.measure_laws.proofs.BoxesRound.{boxes_grow}
use Rattle.measure_laws.proofs.boxes.boxes_grow.Goals as goal

pub returns : goal.returns
returns c = boxes_grow
