use Rattle.edit_laws.proofs.PlanTexts.{plans_stand_in_order}
use Rattle.edit_laws.proofs.plans.plans_stand_in_order.Goals as goal

pub returns : goal.returns
returns c = plans_stand_in_order c.changes_stand_in_order.ensures
