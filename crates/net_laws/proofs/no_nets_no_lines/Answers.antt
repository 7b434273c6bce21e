use Rattle.net_laws.proofs.NoNets.{no_lines}
use Rattle.net_laws.proofs.no_nets_no_lines.Goals as goal

pub returns : goal.returns
returns c = no_lines
