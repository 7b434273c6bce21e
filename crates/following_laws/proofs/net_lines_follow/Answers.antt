use Rattle.following_laws.proofs.DesignLemmas.{net_lines_follow}
use Rattle.following_laws.proofs.net_lines_follow.Goals as goal

pub returns : goal.returns
returns c = net_lines_follow
