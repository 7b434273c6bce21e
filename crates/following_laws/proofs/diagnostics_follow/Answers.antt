use Rattle.following_laws.proofs.DesignLemmas.{diagnostics_follow}
use Rattle.following_laws.proofs.diagnostics_follow.Goals as goal

pub returns : goal.returns
returns c = diagnostics_follow
