use Rattle.line_laws.proofs.SameSums.{same_lines_turn}
use Rattle.line_laws.proofs.same.same_lines_turn.Goals as goal

pub returns : goal.returns
returns c = same_lines_turn
