use Rattle.net_queries.proofs.Runs.{runs_are_held}
use Rattle.net_queries.proofs.laws.runs_are_held.Goals as goal

pub returns : goal.returns
returns c = runs_are_held
