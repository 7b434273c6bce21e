use Rattle.statement_laws.proofs.JoinedTexts.{statements_of_texts_join}
use Rattle.statement_laws.proofs.texts.statements_of_texts_join.Goals as goal

pub returns : goal.returns
returns c = statements_of_texts_join
