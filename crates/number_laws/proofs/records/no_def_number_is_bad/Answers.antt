use Rattle.def_grammar.specs.Records.{def}
use Rattle.number_laws.proofs.GoodRecords.{no_number_is_bad}
use Rattle.number_laws.proofs.records.no_def_number_is_bad.Goals as goal

pub returns : goal.returns
returns c = no_number_is_bad def
