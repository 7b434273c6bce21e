use Rattle.std.proofs.Common.{refl, ◌∙◌}
use Rattle.lef_grammar.specs.Definitions.{pin_record, port_record}
use Rattle.lef_grammar.specs.PortBlock.{is_unchecked, port_layer_of, port_rect_of}
use Rattle.cell_library.specs.Records.{records_view}
use Rattle.cell_library.proofs.InnerLemmas.{pin_exact}
use Rattle.cell_library.proofs.ShapeLemmas.{all_say, pin_says, same_count, same_shapes}
use Rattle.cell_library.proofs.pin.PinDefinition.read.Goals as goal

pub returns : goal.returns
returns g c = λ name.
    let recs = records_view c.args.inner.now in
    let says = all_say port_record port_layer_of port_rect_of is_unchecked pin_record pin_says recs c.requires in
    let shapes = c.in_ok-shapes_among.ensures ∙ same_shapes port_record port_layer_of port_rect_of is_unchecked recs says in
    let count = c.count_unchecked-unchecked.ensures.count ∙ same_count port_record port_layer_of port_rect_of is_unchecked recs says in
    rw (pin_exact recs c.requires, shapes, count) refl
