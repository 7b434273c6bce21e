use Rattle.def_grammar.specs.Records.{def}
use Rattle.statement_laws.proofs.Reading.{reading_goes_on}
use Rattle.statement_laws.proofs.statements.reading_goes_on.Goals as goal

pub returns : goal.returns
returns c = reading_goes_on def
