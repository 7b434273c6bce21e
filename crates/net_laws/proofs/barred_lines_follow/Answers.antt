use Rattle.net_laws.proofs.Blocked.{barred_lines_follow}
use Rattle.net_laws.proofs.barred_lines_follow.Goals as goal

pub returns : goal.returns
returns c = barred_lines_follow
