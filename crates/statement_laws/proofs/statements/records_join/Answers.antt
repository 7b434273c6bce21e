use Rattle.def_grammar.specs.Records.{def}
use Rattle.statement_laws.proofs.Reading.{records_join}
use Rattle.statement_laws.proofs.statements.records_join.Goals as goal

pub returns : goal.returns
returns c = records_join def
