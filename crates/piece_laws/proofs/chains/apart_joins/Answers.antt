use Rattle.piece_laws.proofs.Chaining.{apart_joins}
use Rattle.piece_laws.proofs.chains.apart_joins.Goals as goal

pub returns : goal.returns
returns c = apart_joins
