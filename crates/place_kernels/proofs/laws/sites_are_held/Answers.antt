use Rattle.place_kernels.proofs.SiteLaws.{sites_are_held}
use Rattle.place_kernels.proofs.laws.sites_are_held.Goals as goal

pub returns : goal.returns
returns c = sites_are_held
