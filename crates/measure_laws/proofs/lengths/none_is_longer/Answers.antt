use Rattle.measure_laws.proofs.NameSums.{none_is_longer}
use Rattle.measure_laws.proofs.lengths.none_is_longer.Goals as goal

pub returns : goal.returns
returns c = none_is_longer
