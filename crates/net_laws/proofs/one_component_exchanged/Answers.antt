use Rattle.net_laws.proofs.StarNets.{one_component_exchanged}
use Rattle.net_laws.proofs.one_component_exchanged.Goals as goal

pub returns : goal.returns
returns c = one_component_exchanged
