use Rattle.lefdef_tokens.proofs.Joining.{tokens_join}
use Rattle.lefdef_tokens.proofs.laws.tokens_join.Goals as goal

pub returns : goal.returns
returns c = tokens_join
