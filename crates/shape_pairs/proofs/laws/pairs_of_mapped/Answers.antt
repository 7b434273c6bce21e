use Rattle.shape_pairs.proofs.PairLemmas.{pairs_of_mapped}
use Rattle.shape_pairs.proofs.laws.pairs_of_mapped.Goals as goal

pub returns : goal.returns
returns g c = pairs_of_mapped g.row.T.Denot _
