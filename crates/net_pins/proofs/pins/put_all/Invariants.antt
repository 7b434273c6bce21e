use Rattle.std.proofs.Common.{drop, map}
use Rattle.net_pins.specs.Walking.{PutsPins}
use Rattle.net_pins.specs.EntryPins.{design_pin_of, lent_pin}
use Rattle.net_pins.proofs.pins.put_all.Given as goal

abbrev pub invariant-loop-pin : goal.invariant-loop-pin
invariant-loop-pin g l = PutsPins (map (design_pin_of l.of) (map lent_pin l.pins)) l.initial.walk.seen l.initial.nets (map (design_pin_of l.of) (map lent_pin (drop l.pin-index l.pins))) l.of.library.now l.walk l.nets
