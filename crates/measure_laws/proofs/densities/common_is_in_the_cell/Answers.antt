use Rattle.measure_laws.proofs.CommonAreas.{common_is_in_the_cell}
use Rattle.measure_laws.proofs.densities.common_is_in_the_cell.Goals as goal

pub returns : goal.returns
returns c = common_is_in_the_cell
