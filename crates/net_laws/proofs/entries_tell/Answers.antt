use Rattle.net_laws.proofs.TellingEntries.{entries_tell}
use Rattle.net_laws.proofs.entries_tell.Goals as goal

pub returns : goal.returns
returns c = entries_tell
