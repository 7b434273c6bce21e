use Rattle.std.proofs.Common.{refl, ◌∙◌}
use Rattle.lef_grammar.specs.Definitions.{via_record}
use Rattle.lef_grammar.specs.ViaBlock.{is_via_polygon, via_layer_of, via_rect_of}
use Rattle.cell_library.specs.Records.{records_view}
use Rattle.cell_library.proofs.ShapeLemmas.{all_say, same_count, via_says}
use Rattle.cell_library.proofs.via.ViaDefinition.read.Goals as goal

pub returns : goal.returns
returns g c = λ name.
    let recs = records_view c.args.inner.now in
    let says = all_say via_record via_layer_of via_rect_of is_via_polygon via_record via_says recs c.requires in
    let count = c.count_unchecked-unchecked.ensures.count ∙ same_count via_record via_layer_of via_rect_of is_via_polygon recs says in
    rw (c.in_ok-read_body.ensures, count) refl
