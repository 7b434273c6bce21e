use Rattle.measure_laws.proofs.CommonAreas.{densities_add_up}
use Rattle.measure_laws.proofs.densities.densities_add_up.Goals as goal

pub returns : goal.returns
returns c = densities_add_up
