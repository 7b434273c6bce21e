use Rattle.agreement_laws.proofs.FollowLemmas.{follow}
use Rattle.agreement_laws.proofs.statement_lines_follow.Goals as goal

pub returns : goal.returns
returns c = follow
