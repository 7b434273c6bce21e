use Rattle.net_lists.proofs.BuildingLemmas.{building_steps}
use Rattle.net_lists.proofs.laws.building_steps.Goals as goal

pub returns : goal.returns
returns c = building_steps
