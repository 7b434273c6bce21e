use Rattle.std.proofs.Common.{flat_map}
use Rattle.design_model.specs.Families.{cross_lines, pair_lines}
use Rattle.design_rules.specs.Boxes.{scale}
use Rattle.connection_rules.specs.NetLines.{class_lines, layer_name, routeblock_of, shapes_of_net, short_of}
use Rattle.connection_rules.specs.NetParts.{all_nets}
use Rattle.net_checks.proofs.LineLemmas.{three_families}
use Rattle.net_checks.proofs.net_lines.NetDrawing.put_counted_lines.Goals as goal

pub returns-clause-lines : goal.returns-clause-lines
returns-clause-lines g c = λ library design bars is.
    let nets = all_nets library design (scale design) in
    let shapes = flat_map shapes_of_net nets in
    let name_of = layer_name library.layers in
    let own = rw (← c.self.view_is) at is in
    let touched = rw (c.deref.ensures.value, c.deref-2.ensures.value, own.layers, c.layers_have_their_names.ensures library.layers, own.nets, own.barriers) at c.in_ok-lines.ensures in
    let classes = rw (own.nets) at c.in_ok-checked.ensures.lines in
    three_families c.same_lines_append.ensures c.args.lines _ _ (pair_lines (short_of name_of) shapes)
    (cross_lines (routeblock_of name_of) shapes bars)
    (flat_map class_lines nets) touched classes
