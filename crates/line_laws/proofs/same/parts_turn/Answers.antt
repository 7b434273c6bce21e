use Rattle.line_laws.proofs.SameSums.{parts_turn}
use Rattle.line_laws.proofs.same.parts_turn.Goals as goal

pub returns : goal.returns
returns c = parts_turn
