use Rattle.following_laws.proofs.DesignLemmas.{component_lines_follow}
use Rattle.following_laws.proofs.component_lines_follow.Goals as goal

pub returns : goal.returns
returns c = component_lines_follow
