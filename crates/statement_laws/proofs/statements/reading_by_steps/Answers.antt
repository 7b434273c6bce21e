use Rattle.def_grammar.specs.Records.{def}
use Rattle.statement_laws.proofs.Reading.{reading_by_steps}
use Rattle.statement_laws.proofs.statements.reading_by_steps.Goals as goal

pub returns : goal.returns
returns c = reading_by_steps def
