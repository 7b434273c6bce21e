use Rattle.statement_reader.proofs.Steps.{records_are_read, records_are_located}
use Rattle.statement_reader.proofs.laws.records_are_read.Goals as goal

pub returns-clause-read : goal.returns-clause-read
returns-clause-read g c = records_are_read g.S.Statement.grammar

pub returns-clause-located : goal.returns-clause-located
returns-clause-located g c = records_are_located g.S.Statement.grammar
