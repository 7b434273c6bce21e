use Rattle.splicing_laws.proofs.SplicingTexts.{tokens_end}
use Rattle.splicing_laws.proofs.splicing.tokens_end.Goals as goal

pub returns : goal.returns
returns c = tokens_end
