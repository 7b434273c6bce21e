use Rattle.line_laws.proofs.SameSums.{lines_are_their_own}
use Rattle.line_laws.proofs.same.lines_are_their_own.Goals as goal

pub returns : goal.returns
returns c = lines_are_their_own
