use Rattle.statement_laws.proofs.StatementLists.{statements_join}
use Rattle.statement_laws.proofs.statements.statements_join.Goals as goal

pub returns : goal.returns
returns c = statements_join
