use Rattle.measuring_laws.proofs.Measures.{told_measures_follow}
use Rattle.measuring_laws.proofs.told_measures_follow.Goals as goal

pub returns : goal.returns
returns c = told_measures_follow c.nets_are_told.ensures c.one_net_is_told.ensures c.told_nets_are_exchanged.ensures
