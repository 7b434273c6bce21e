use Rattle.number_laws.proofs.LefTells.{no_lef_number_is_left_out}
use Rattle.number_laws.proofs.records.no_lef_number_is_left_out.Goals as goal

pub returns : goal.returns
returns c = no_lef_number_is_left_out
