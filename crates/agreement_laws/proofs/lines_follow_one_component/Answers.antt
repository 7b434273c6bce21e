use Rattle.agreement_laws.proofs.FollowLemmas.{follow_one}
use Rattle.agreement_laws.proofs.lines_follow_one_component.Goals as goal

pub returns : goal.returns
returns c = follow_one
