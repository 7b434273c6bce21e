use Rattle.following_laws.proofs.DesignLemmas.{statements_follow}
use Rattle.following_laws.proofs.statements_follow.Goals as goal

pub returns : goal.returns
returns c = statements_follow
