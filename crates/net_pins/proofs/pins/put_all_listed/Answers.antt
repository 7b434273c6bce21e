use Rattle.std.proofs.Common.{◌+◌, drop, ap, ◌∙◌, flat_map, map}
use Rattle.std.proofs.lemmas.Grind.{flat_map-append}
use Rattle.connection_rules.specs.Terminals.{pins_of}
use Rattle.cell_library.proofs.AddingLemmas.{split_at}
use Rattle.net_entries.specs.NetEntries.{entry_lent}
use Rattle.net_pins.specs.EntryPins.{listed, pins_in}
use Rattle.net_pins.proofs.PutLemmas.{more_pins_put}
use Rattle.net_pins.proofs.pins.put_all_listed.Goals as goal

pub loop-entry-preserved : goal.loop-entry-preserved
loop-entry-preserved g c =
    let i = c.loop-entry.entry-index in
    let f = pins_of (pins_in c.args.of.now) in
    let there = split_at c.args.entries.now i c.entry-item.result c.loop-entry-test.true c.entry-item.is in
    let rest = flat_map listed (map entry_lent (drop (i + 1) c.args.entries.now)) in
    more_pins_put (flat_map f (listed (entry_lent c.entry-item.result))) (flat_map f rest)
    (ap (λ es. flat_map f (flat_map listed (map entry_lent es))) there ∙ flat_map-append f (listed (entry_lent c.entry-item.result)) rest)
    c.loop-entry.invariant c.in_ok-put_listed.ensures.ok c.in_ok-put_listed.ensures.ready
