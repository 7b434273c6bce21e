use Rattle.statement_laws.proofs.StatementLists.{first_of_all}
use Rattle.statement_laws.proofs.statements.first_of_all.Goals as goal

pub returns : goal.returns
returns c = first_of_all
