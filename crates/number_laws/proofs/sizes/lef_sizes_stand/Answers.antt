use Rattle.number_laws.proofs.LefSizes.{lef_sizes_stand}
use Rattle.number_laws.proofs.sizes.lef_sizes_stand.Goals as goal

pub returns : goal.returns
returns c = lef_sizes_stand
