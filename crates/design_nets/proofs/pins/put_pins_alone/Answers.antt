use Rattle.std.proofs.Common.{map}
use Rattle.std.specs.List.{filter_map}
use Rattle.design_rules.specs.Boxes.{scale}
use Rattle.connection_rules.specs.NetParts.{wired_of}
use Rattle.connection_rules.specs.Terminals.{pins_by_name}
use Rattle.net_entries.specs.NetEntries.{entry_lent}
use Rattle.design_nets.proofs.PinLemmas.{pins_built}
use Rattle.design_nets.proofs.pins.put_pins_alone.Goals as goal

pub returns-clause-net : goal.returns-clause-net
returns-clause-net g c =
    let library = c.args.pins.now.library in
    let design = c.args.pins.now.design in
    let ws = filter_map (wired_of library design (scale design)) (map entry_lent c.args.entries.now) in
    pins_built library.layers c.building_a_net.ensures c.args.nets.now c.args.name.now (pins_by_name library design (scale design)) ws
    _ _ c.in_ok-begin_net.ensures.ok c.in_ok-put_pins.ensures.ok
