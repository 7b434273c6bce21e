use Rattle.splicing_laws.proofs.SplicingTexts.{tokens_are_put}
use Rattle.splicing_laws.proofs.splicing.tokens_are_put.Goals as goal

pub returns : goal.returns
returns c = tokens_are_put
