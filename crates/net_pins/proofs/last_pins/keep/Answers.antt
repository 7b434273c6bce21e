use Rattle.net_pins.proofs.KeptLemmas.{one_more, one_removed}
use Rattle.net_pins.proofs.last_pins.keep.Goals as goal

pub returns : goal.returns
returns g c = λ library are is.
    let more = one_more library c.args.slots.now.items c.push.new.values.items c.args.pin are is c.in-Ok.ensures in
    one_removed library c.push.new.values.items c.swap_remove.new.self.items c.args.slot c.swap_remove.result more c.swap_remove.ensures.items
