use Rattle.net_laws.proofs.NetChanges.{told_nets_are_exchanged}
use Rattle.net_laws.proofs.told_nets_are_exchanged.Goals as goal

pub returns : goal.returns
returns c = told_nets_are_exchanged
