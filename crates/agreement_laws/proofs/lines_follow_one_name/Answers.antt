use Rattle.agreement_laws.proofs.FollowLemmas.{follow_named}
use Rattle.agreement_laws.proofs.lines_follow_one_name.Goals as goal

pub returns : goal.returns
returns c = follow_named
