use Rattle.splicing_laws.proofs.PutTokens.{spaced_are_tokens}
use Rattle.splicing_laws.proofs.putting.spaced_are_tokens.Goals as goal

pub returns : goal.returns
returns c = spaced_are_tokens
