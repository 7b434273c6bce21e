use Rattle.edit_laws.proofs.StatementsChanged.{statements_are_changed}
use Rattle.edit_laws.proofs.statements.statements_are_changed.Goals as goal

pub returns : goal.returns
returns c = statements_are_changed c.tokens_begin.ensures c.tokens_end.ensures c.tokens_are_put.ensures
