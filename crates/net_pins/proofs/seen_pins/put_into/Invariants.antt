use Rattle.std.proofs.Common.{◌++◌, drop}
use Rattle.net_pins.proofs.SeenLemmas.{ArePut}
use Rattle.net_pins.proofs.seen_pins.put_into.Given as goal

abbrev pub invariant-loop-pin : goal.invariant-loop-pin
invariant-loop-pin g l = ArePut (l.initial.table.keys ++ l.pins) l.table.keys (drop l.pin-index l.pins)
