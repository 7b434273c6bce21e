use Rattle.connection_rules.specs.NetParts.{wired_net}
use Rattle.design_rules.specs.Boxes.{scale}
use Rattle.wire_parts.specs.NetViews.{net_view}
use Rattle.drawn_parts.proofs.EntryLemmas.{none_begun, put_apart}
use Rattle.drawn_parts.proofs.entries.put_net.Goals as goal

pub put_net_wires-requires : goal.put_net_wires-requires
put_net_wires-requires g c = none_begun c.args.walk.now.layers c.args.nets.now c.requires

pub returns-clause-ok : goal.returns-clause-ok
returns-clause-ok g c =
    put_apart c.args.walk.now.layers.layers (wired_net c.args.wires.now.library c.args.wires.now.design (scale c.args.wires.now.design) (net_view c.args.parts.now)) c.args.nets.now _
    c.in_ok-length.ensures.ok
