use Rattle.net_laws.proofs.OneNet.{one_net_is_told}
use Rattle.net_laws.proofs.one_net_is_told.Goals as goal

pub returns : goal.returns
returns c = one_net_is_told
