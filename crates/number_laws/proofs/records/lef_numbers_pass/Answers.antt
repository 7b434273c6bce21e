use Rattle.number_laws.proofs.LefTells.{lef_numbers_pass}
use Rattle.number_laws.proofs.records.lef_numbers_pass.Goals as goal

pub returns : goal.returns
returns c = lef_numbers_pass
