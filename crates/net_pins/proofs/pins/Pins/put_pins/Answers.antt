use Rattle.std.proofs.Common.{map}
use Rattle.std.proofs.lemmas.Result.{on_ok_weaker}
use Rattle.design_wires.specs.Scales.{units_of}
use Rattle.net_entries.specs.NetEntries.{entry_lent}
use Rattle.net_pins.specs.EntryPins.{design_pin_of, lent_pin}
use Rattle.net_pins.proofs.NamingLemmas.{found_naming, net_put}
use Rattle.net_pins.proofs.pins.Pins.put_pins.Goals as goal

pub returns-clause-ok : goal.returns-clause-ok
returns-clause-ok g c =
    let of = c.self.inside.sources in
    let u = units_of of.scale in
    rw (← c.self.view_is)
    (on_ok_weaker c.put_both.result
    (net_put of.library.now of.names.now u _ c.args.net.now (map entry_lent c.args.entries.now) (map (design_pin_of of) (map lent_pin c.get.result.now)) c.args.nets.now c.put_both.new.nets of.same_units
    (found_naming of.library.now of.names.now u c.args.net.now c.self.inside.by_net c.get.result.now c.self.invariant c.get.ensures))
    c.put_both.ensures.ok)
