use Rattle.lef_grammar.specs.LefRecords.{lef}
use Rattle.statement_laws.proofs.Whole.{forms_are_spelled}
use Rattle.statement_laws.proofs.lef.lef_forms_are_spelled.Goals as goal

pub returns : goal.returns
returns c = forms_are_spelled lef
