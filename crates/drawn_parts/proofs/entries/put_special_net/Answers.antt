use Rattle.std.proofs.Common.{flat_map}
use Rattle.net_rules.specs.WirePieces.{special_net_pieces}
use Rattle.connection_rules.specs.NetParts.{clause_pieces, wired_special}
use Rattle.design_rules.specs.Boxes.{scale}
use Rattle.wire_parts.specs.SpecialNetViews.{special_net_view}
use Rattle.drawn_parts.proofs.EntryLemmas.{none_begun, put_apart, put_twice}
use Rattle.drawn_parts.proofs.LengthLemmas.{wires_have_all}
use Rattle.drawn_parts.proofs.entries.put_special_net.Goals as goal

pub put_special_wires-requires : goal.put_special_wires-requires
put_special_wires-requires g c = none_begun c.args.walk.now.layers c.args.nets.now c.requires

pub returns-clause-ok : goal.returns-clause-ok
returns-clause-ok g c =
    let layers = c.args.walk.now.layers.layers in
    let library = c.args.wires.now.library in
    let design = c.args.wires.now.design in
    let n = special_net_view c.args.parts.now in
    put_apart layers (wired_special library design (scale design) n) c.args.nets.now _
    (put_twice layers (special_net_pieces library design (scale design) n) (flat_map (clause_pieces library design (scale design)) n.clauses) _ _ _ c.in_ok-length.ensures.ok
    (rw (c.again.ensures, c.in_ok-length.ensures.same) at c.in_ok-put_clauses.ensures.ok))

pub returns-clause-length : goal.returns-clause-length
returns-clause-length g c =
    let design = c.args.wires.now.design in
    let n = special_net_view c.args.parts.now in
    wires_have_all c.args.wires.now.library design (scale design) _ (special_net_pieces c.args.wires.now.library design (scale design) n) n.clauses c.in_ok-length.ensures.length
