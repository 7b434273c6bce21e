use Rattle.net_laws.proofs.Blocked.{bars_are_exchanged}
use Rattle.net_laws.proofs.bars_are_exchanged.Goals as goal

pub returns : goal.returns
returns c = bars_are_exchanged
