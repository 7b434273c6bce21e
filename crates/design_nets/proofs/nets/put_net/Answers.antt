use Rattle.std.proofs.Common.{map}
use Rattle.std.specs.List.{filter_map}
use Rattle.design_rules.specs.Boxes.{scale}
use Rattle.connection_rules.specs.NetParts.{drawn_parts, pin_parts, wired_of}
use Rattle.connection_rules.specs.Terminals.{pins_by_name}
use Rattle.net_entries.specs.NetEntries.{entry_lent}
use Rattle.design_nets.proofs.NetLemmas.{net_built}
use Rattle.design_nets.proofs.nets.put_net.Goals as goal

pub returns-clause-net : goal.returns-clause-net
returns-clause-net g c =
    let library = c.args.wires.now.library in
    let design = c.args.wires.now.design in
    let ws = filter_map (wired_of library design (scale design)) (map entry_lent c.args.entries.now) in
    let given = rw (c.requires.pins) at c.in_ok-put_pins.ensures.ok in
    let built = rw (c.requires.part_walk) at c.in_ok-length.ensures.ok in
    net_built c.building_a_net.ensures c.args.nets.now c.args.name.now c.args.is_power
    (pin_parts (pins_by_name library design (scale design)) c.args.name.now ws) (drawn_parts library.layers ws)
    _ _ _ c.in_ok-begin_net.ensures.ok given built
