use Rattle.edit_laws.proofs.ComponentChanges.{component_plans_are_made}
use Rattle.edit_laws.proofs.components.component_plans_are_made.Goals as goal

pub returns : goal.returns
returns c = component_plans_are_made c.components_are_found.ensures c.entries_are_written.ensures c.placings_are_changes.ensures c.unplacings_are_changes.ensures c.remasterings_are_changes.ensures c.one_is_edited.ensures c.same_keys_are_once.ensures
