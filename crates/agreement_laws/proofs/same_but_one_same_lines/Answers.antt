use Rattle.agreement_laws.proofs.FollowLemmas.{same_but}
use Rattle.agreement_laws.proofs.same_but_one_same_lines.Goals as goal

pub returns : goal.returns
returns c = same_but
