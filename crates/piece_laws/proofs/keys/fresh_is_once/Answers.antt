use Rattle.piece_laws.proofs.FreshKeys.{fresh_is_once}
use Rattle.piece_laws.proofs.keys.fresh_is_once.Goals as goal

pub returns : goal.returns
returns c = fresh_is_once
