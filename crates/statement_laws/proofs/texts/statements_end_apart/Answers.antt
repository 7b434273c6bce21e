use Rattle.statement_laws.proofs.StatementEnds.{statements_end_apart}
use Rattle.statement_laws.proofs.texts.statements_end_apart.Goals as goal

pub returns : goal.returns
returns c = statements_end_apart
