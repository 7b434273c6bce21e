use Rattle.edit_laws.proofs.EditedTexts.{edits_stand_in_order}
use Rattle.edit_laws.proofs.editing.edits_stand_in_order.Goals as goal

pub returns : goal.returns
returns c = edits_stand_in_order c.component_plans_are_made.ensures c.net_plans_are_made.ensures c.section_plans_are_made.ensures c.plans_stand_in_order.ensures
