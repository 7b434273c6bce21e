use Rattle.splicing_laws.proofs.SplicingTexts.{tokens_begin}
use Rattle.splicing_laws.proofs.splicing.tokens_begin.Goals as goal

pub returns : goal.returns
returns c = tokens_begin
