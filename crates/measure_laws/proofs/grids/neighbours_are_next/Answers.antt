use Rattle.measure_laws.proofs.LineMembers.{neighbours_are_next}
use Rattle.measure_laws.proofs.grids.neighbours_are_next.Goals as goal

pub returns : goal.returns
returns c = neighbours_are_next
