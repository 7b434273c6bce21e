use Rattle.measuring_laws.proofs.Measures.{lengths_are_told}
use Rattle.measuring_laws.proofs.lengths_are_told.Goals as goal

pub returns : goal.returns
returns c = lengths_are_told
