use Rattle.std.proofs.Common.{flat_map, map}
use Rattle.std.proofs.lemmas.Result.{on_ok_weaker}
use Rattle.connection_rules.specs.Terminals.{pins_of}
use Rattle.net_entries.specs.NetEntries.{entry_lent}
use Rattle.net_pins.specs.EntryPins.{design_pin_of, lent_pin, listed, pins_in}
use Rattle.net_pins.proofs.NamingLemmas.{both_put}
use Rattle.net_pins.proofs.pins.put_both.Goals as goal

pub returns-clause-ok : goal.returns-clause-ok
returns-clause-ok g c =
    let of = c.args.of.now in
    on_ok_weaker c.put_all.result
    (both_put (flat_map (pins_of (pins_in of)) (flat_map listed (map entry_lent c.args.entries.now))) (map (design_pin_of of) (map lent_pin c.args.pins.now)) c.clear.new.self c.put_all_listed.new.walk.seen c.put_all.new.walk.seen
    c.args.nets.now c.put_all_listed.new.nets c.put_all.new.nets c.clear.ensures c.in_ok-put_all_listed.ensures.ok)
    c.put_all.ensures.ok
