use Rattle.agreement_laws.proofs.CountLemmas.{same_counts}
use Rattle.agreement_laws.proofs.same_outline_same_counts.Goals as goal

pub returns : goal.returns
returns c = same_counts
