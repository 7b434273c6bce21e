use Rattle.number_laws.proofs.RecordTells.{def_numbers_pass}
use Rattle.number_laws.proofs.records.def_numbers_pass.Goals as goal

pub returns : goal.returns
returns c = def_numbers_pass
