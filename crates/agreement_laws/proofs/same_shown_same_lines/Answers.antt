use Rattle.agreement_laws.proofs.FollowLemmas.{same_shown}
use Rattle.agreement_laws.proofs.same_shown_same_lines.Goals as goal

pub returns : goal.returns
returns c = same_shown
