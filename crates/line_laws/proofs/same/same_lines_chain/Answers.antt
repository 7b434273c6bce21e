use Rattle.line_laws.proofs.SameSums.{same_lines_chain}
use Rattle.line_laws.proofs.same.same_lines_chain.Goals as goal

pub returns : goal.returns
returns c = same_lines_chain
