use Rattle.shape_pairs.proofs.PairLemmas.{same_pairs_have_the_lines}
use Rattle.shape_pairs.proofs.laws.same_pairs_have_the_lines.Goals as goal

pub returns : goal.returns
returns g c = same_pairs_have_the_lines g.row.T.Denot
