use Rattle.net_laws.proofs.StarNets.{one_component_is_told}
use Rattle.net_laws.proofs.one_component_is_told.Goals as goal

pub returns : goal.returns
returns c = one_component_is_told
