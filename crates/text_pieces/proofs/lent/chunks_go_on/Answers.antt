use Rattle.text_pieces.proofs.Ids.{ids_from}
use Rattle.text_pieces.proofs.lent.chunks_go_on.Goals as goal

pub returns : goal.returns
returns c = ids_from
