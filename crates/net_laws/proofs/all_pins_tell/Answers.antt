use Rattle.net_laws.proofs.NetPins.{all_pins_tell}
use Rattle.net_laws.proofs.all_pins_tell.Goals as goal

pub returns : goal.returns
returns c = all_pins_tell
