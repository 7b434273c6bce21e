use Rattle.lefdef_tokens.proofs.Standing.{tokens_are_slices}
use Rattle.lefdef_tokens.proofs.laws.tokens_are_slices.Goals as goal

pub returns : goal.returns
returns c = tokens_are_slices
