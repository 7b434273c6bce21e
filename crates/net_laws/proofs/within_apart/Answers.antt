use Rattle.net_laws.proofs.Within.{within_apart}
use Rattle.net_laws.proofs.within_apart.Goals as goal

pub returns : goal.returns
returns c = within_apart
