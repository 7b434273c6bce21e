use Rattle.net_laws.proofs.OneExchanged.{agree_on_and_on}
use Rattle.net_laws.proofs.agree_on_and_on.Goals as goal

pub returns : goal.returns
returns c = agree_on_and_on
