use Rattle.net_laws.proofs.NetChanges.{touched_apart}
use Rattle.net_laws.proofs.touched_apart.Goals as goal

pub returns : goal.returns
returns c = touched_apart
