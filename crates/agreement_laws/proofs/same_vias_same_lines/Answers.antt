use Rattle.agreement_laws.proofs.ViaLemmas.{same_off_layer}
use Rattle.agreement_laws.proofs.same_vias_same_lines.Goals as goal

pub returns : goal.returns
returns c = same_off_layer
