use Rattle.def_grammar.specs.Records.{def}
use Rattle.statement_laws.proofs.Reading.{statements_by_steps}
use Rattle.statement_laws.proofs.statements.statements_by_steps.Goals as goal

pub returns : goal.returns
returns c = statements_by_steps def
