use Rattle.line_laws.proofs.GoodScales.{scales_are_good}
use Rattle.line_laws.proofs.scales.scales_are_good.Goals as goal

pub returns : goal.returns
returns c = scales_are_good
