use Rattle.edit_laws.proofs.NetChanges.{net_entries_are_edited}
use Rattle.edit_laws.proofs.nets.net_entries_are_edited.Goals as goal

pub returns : goal.returns
returns c = net_entries_are_edited c.spaced_are_tokens.ensures c.tokens_are_put.ensures
