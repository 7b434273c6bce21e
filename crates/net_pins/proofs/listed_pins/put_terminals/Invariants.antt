use Rattle.std.proofs.Common.{flat_map}
use Rattle.connection_rules.specs.Terminals.{pins_of}
use Rattle.wire_parts.specs.TerminalViews.{terminals_of}
use Rattle.net_pins.specs.Walking.{PutsPins}
use Rattle.net_pins.specs.EntryPins.{pins_in}
use Rattle.net_pins.proofs.listed_pins.put_terminals.Given as goal

abbrev pub invariant-loop-terminal : goal.invariant-loop-terminal
invariant-loop-terminal g l =
    PutsPins (flat_map (pins_of (pins_in l.of)) (terminals_of l.terminals)) l.initial.walk.seen l.initial.nets (flat_map (pins_of (pins_in l.of)) (terminals_of l.left)) l.of.library.now l.walk l.nets

abbrev pub decreases-loop-terminal : goal.decreases-loop-terminal
decreases-loop-terminal g l = l.left.most
