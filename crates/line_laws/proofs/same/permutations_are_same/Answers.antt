use Rattle.line_laws.proofs.SameSums.{permutations_are_same}
use Rattle.line_laws.proofs.same.permutations_are_same.Goals as goal

pub returns : goal.returns
returns g c = permutations_are_same g.row.T.Denot
