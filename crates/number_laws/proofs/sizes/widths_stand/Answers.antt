use Rattle.number_laws.proofs.Widths.{widths_stand}
use Rattle.number_laws.proofs.sizes.widths_stand.Goals as goal

pub returns : goal.returns
returns c = widths_stand
