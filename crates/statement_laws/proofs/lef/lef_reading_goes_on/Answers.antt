use Rattle.lef_grammar.specs.LefRecords.{lef}
use Rattle.statement_laws.proofs.Reading.{reading_goes_on}
use Rattle.statement_laws.proofs.lef.lef_reading_goes_on.Goals as goal

pub returns : goal.returns
returns c = reading_goes_on lef
