use Rattle.place_kernels.proofs.SiteLaws.{turned_sizes}
use Rattle.place_kernels.proofs.laws.turned_sizes.Goals as goal

pub returns : goal.returns
returns c = turned_sizes
