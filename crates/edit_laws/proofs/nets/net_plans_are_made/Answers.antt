use Rattle.edit_laws.proofs.NetChanges.{net_plans_are_made}
use Rattle.edit_laws.proofs.nets.net_plans_are_made.Goals as goal

pub returns : goal.returns
returns c = net_plans_are_made c.entries_are_found.ensures c.entries_are_written.ensures c.one_is_edited.ensures c.same_keys_are_once.ensures c.net_entries_are_edited.ensures
