use Rattle.statement_laws.proofs.BetweenTokens.{blanks_are_between}
use Rattle.statement_laws.proofs.texts.blanks_are_between.Goals as goal

pub returns : goal.returns
returns c = blanks_are_between
