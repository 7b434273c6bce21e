use Rattle.net_laws.proofs.NetChanges.{apart_on}
use Rattle.net_laws.proofs.apart_on_and_on.Goals as goal

pub returns : goal.returns
returns c = apart_on
