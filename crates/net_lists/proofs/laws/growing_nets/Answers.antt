use Rattle.net_lists.proofs.BuildingLemmas.{growing_nets}
use Rattle.net_lists.proofs.laws.growing_nets.Goals as goal

pub returns : goal.returns
returns c = growing_nets
