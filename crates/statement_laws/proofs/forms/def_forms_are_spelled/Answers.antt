use Rattle.def_grammar.specs.Records.{def}
use Rattle.statement_laws.proofs.Whole.{forms_are_spelled}
use Rattle.statement_laws.proofs.forms.def_forms_are_spelled.Goals as goal

pub returns : goal.returns
returns c = forms_are_spelled def
