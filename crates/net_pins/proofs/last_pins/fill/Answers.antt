use Rattle.net_pins.proofs.KeptLemmas.{as_before, one_more}
use Rattle.net_pins.proofs.last_pins.fill.Goals as goal

pub returns-in-Err : goal.returns-in-Err
returns-in-Err g c = λ library are is. as_before library c.loop.slots.items c.push.new.values.items (c.loop.invariant library are is) c.in-Err.ensures

pub loop-preserved : goal.loop-preserved
loop-preserved g c = λ library are is. one_more library c.loop.slots.items c.push.new.values.items c.args.pin (c.loop.invariant library are is) is c.in-Ok.ensures
