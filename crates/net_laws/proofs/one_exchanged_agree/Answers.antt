use Rattle.net_laws.proofs.OneExchanged.{one_exchanged_agree}
use Rattle.net_laws.proofs.one_exchanged_agree.Goals as goal

pub returns : goal.returns
returns c = one_exchanged_agree
