use Rattle.lefdef_tokens.proofs.RunPlaces.{tokens_of_runs}
use Rattle.lefdef_tokens.proofs.laws.tokens_of_runs.Goals as goal

pub returns : goal.returns
returns c = tokens_of_runs
