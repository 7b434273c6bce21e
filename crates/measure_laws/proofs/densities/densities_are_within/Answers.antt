use Rattle.measure_laws.proofs.CommonAreas.{densities_are_within}
use Rattle.measure_laws.proofs.densities.densities_are_within.Goals as goal

pub returns : goal.returns
returns c = densities_are_within
