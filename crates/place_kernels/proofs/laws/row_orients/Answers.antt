use Rattle.place_kernels.proofs.SiteLaws.{row_orients}
use Rattle.place_kernels.proofs.laws.row_orients.Goals as goal

pub returns : goal.returns
returns c = row_orients
