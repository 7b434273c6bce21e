use Rattle.net_laws.proofs.NetChanges.{nets_are_exchanged}
use Rattle.net_laws.proofs.nets_are_exchanged.Goals as goal

pub returns : goal.returns
returns c = nets_are_exchanged
