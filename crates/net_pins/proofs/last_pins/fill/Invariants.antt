use Rattle.lef_grammar.specs.Library.{Library}
use Rattle.net_pins.specs.FoundPins.{AreKept, IsKept}
use Rattle.net_pins.proofs.last_pins.fill.Given as goal

abbrev pub invariant-loop : goal.invariant-loop
invariant-loop g l = (library : Library) → AreKept library l.initial.slots.items → IsKept library l.pin → AreKept library l.slots.items
