use Rattle.measure_laws.proofs.GridRanges.{densities_fit}
use Rattle.measure_laws.proofs.ranges.densities_fit.Goals as goal

pub returns : goal.returns
returns c = densities_fit
