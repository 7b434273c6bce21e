use Rattle.line_laws.proofs.ToldKinds.{kinds_are_told}
use Rattle.line_laws.proofs.kinds.kinds_are_told.Goals as goal

pub returns : goal.returns
returns c = kinds_are_told
