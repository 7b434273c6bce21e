use Rattle.net_laws.proofs.PinLines.{pin_lines_follow}
use Rattle.net_laws.proofs.pin_lines_follow.Goals as goal

pub returns : goal.returns
returns c = pin_lines_follow
