use Rattle.number_laws.proofs.DefSizes.{def_sizes_stand}
use Rattle.number_laws.proofs.sizes.def_sizes_stand.Goals as goal

pub returns : goal.returns
returns c = def_sizes_stand
