use Rattle.lefdef_tokens.proofs.Moving.{tokens_move}
use Rattle.lefdef_tokens.proofs.laws.tokens_move.Goals as goal

pub returns : goal.returns
returns c = tokens_move
