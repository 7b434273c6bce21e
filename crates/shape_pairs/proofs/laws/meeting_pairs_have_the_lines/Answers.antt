use Rattle.shape_pairs.proofs.PairLemmas.{meeting_pairs_have_the_lines}
use Rattle.shape_pairs.proofs.laws.meeting_pairs_have_the_lines.Goals as goal

pub returns : goal.returns
returns g c = meeting_pairs_have_the_lines g.row.T.Denot
