use Rattle.lef_grammar.specs.LefRecords.{lef}
use Rattle.statement_laws.proofs.Reading.{reading_joins}
use Rattle.statement_laws.proofs.lef.lef_reading_joins.Goals as goal

pub returns : goal.returns
returns c = reading_joins lef
