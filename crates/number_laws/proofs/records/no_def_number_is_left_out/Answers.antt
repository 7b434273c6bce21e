use Rattle.number_laws.proofs.RecordTells.{no_def_number_is_left_out}
use Rattle.number_laws.proofs.records.no_def_number_is_left_out.Goals as goal

pub returns : goal.returns
returns c = no_def_number_is_left_out
