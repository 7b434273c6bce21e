use Rattle.net_laws.proofs.TellingEntries.{entries_name_one_net}
use Rattle.net_laws.proofs.entries_name_one_net.Goals as goal

pub returns : goal.returns
returns c = entries_name_one_net
