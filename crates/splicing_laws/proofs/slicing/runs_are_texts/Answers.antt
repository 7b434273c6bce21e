use Rattle.splicing_laws.proofs.SlicedTexts.{runs_are_texts}
use Rattle.splicing_laws.proofs.slicing.runs_are_texts.Goals as goal

pub returns : goal.returns
returns c = runs_are_texts
