use Rattle.edit_laws.proofs.StatementsChanged.{changes_stand_in_order}
use Rattle.edit_laws.proofs.statements.changes_stand_in_order.Goals as goal

pub returns : goal.returns
returns c = changes_stand_in_order c.tokens_begin.ensures c.tokens_end.ensures c.tokens_are_put.ensures
