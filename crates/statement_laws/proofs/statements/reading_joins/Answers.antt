use Rattle.def_grammar.specs.Records.{def}
use Rattle.statement_laws.proofs.Reading.{reading_joins}
use Rattle.statement_laws.proofs.statements.reading_joins.Goals as goal

pub returns : goal.returns
returns c = reading_joins def
