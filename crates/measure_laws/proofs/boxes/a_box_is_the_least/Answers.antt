use Rattle.measure_laws.proofs.BoxesRound.{a_box_is_the_least}
use Rattle.measure_laws.proofs.boxes.a_box_is_the_least.Goals as goal

pub returns : goal.returns
returns c = a_box_is_the_least
