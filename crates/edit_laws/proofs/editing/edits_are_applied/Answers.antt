use Rattle.edit_laws.proofs.EditedTexts.{edits_are_applied}
use Rattle.edit_laws.proofs.editing.edits_are_applied.Goals as goal

pub returns : goal.returns
returns c = edits_are_applied c.component_plans_are_made.ensures c.net_plans_are_made.ensures c.section_plans_are_made.ensures c.plans_are_applied.ensures
