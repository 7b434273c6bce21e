use Rattle.net_laws.proofs.NetPins.{own_pins_tell}
use Rattle.net_laws.proofs.own_pins_tell.Goals as goal

pub returns : goal.returns
returns c = own_pins_tell
