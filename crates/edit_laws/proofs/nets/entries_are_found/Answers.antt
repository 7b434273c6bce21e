use Rattle.edit_laws.proofs.NetChanges.{entries_are_found}
use Rattle.edit_laws.proofs.nets.entries_are_found.Goals as goal

pub returns : goal.returns
returns c = entries_are_found
