use Rattle.net_laws.proofs.ToldNets.{nets_are_told}
use Rattle.net_laws.proofs.nets_are_told.Goals as goal

pub returns : goal.returns
returns c = nets_are_told
