use Rattle.edit_laws.proofs.PlanTexts.{plans_are_applied}
use Rattle.edit_laws.proofs.plans.plans_are_applied.Goals as goal

pub returns : goal.returns
returns c = plans_are_applied c.statements_are_changed.ensures
