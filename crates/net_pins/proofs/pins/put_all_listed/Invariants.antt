use Rattle.std.proofs.Common.{drop, flat_map, map}
use Rattle.connection_rules.specs.Terminals.{pins_of}
use Rattle.net_entries.specs.NetEntries.{entry_lent}
use Rattle.net_pins.specs.Walking.{PutsPins}
use Rattle.net_pins.specs.EntryPins.{listed, pins_in}
use Rattle.net_pins.proofs.pins.put_all_listed.Given as goal

abbrev pub invariant-loop-entry : goal.invariant-loop-entry
invariant-loop-entry g l =
    PutsPins (flat_map (pins_of (pins_in l.of)) (flat_map listed (map entry_lent l.entries))) l.initial.walk.seen l.initial.nets
    (flat_map (pins_of (pins_in l.of)) (flat_map listed (map entry_lent (drop l.entry-index l.entries)))) l.of.library.now l.walk l.nets
