use Rattle.net_lists.proofs.BuildingLemmas.{building_a_net}
use Rattle.net_lists.proofs.laws.building_a_net.Goals as goal

pub returns : goal.returns
returns c = building_a_net
