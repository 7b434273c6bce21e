use Rattle.line_laws.proofs.Overlaps.{overlaps_are_symmetric}
use Rattle.line_laws.proofs.pairs.overlaps_are_symmetric.Goals as goal

pub returns : goal.returns
returns c = overlaps_are_symmetric
