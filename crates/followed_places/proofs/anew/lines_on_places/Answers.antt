use Rattle.std.proofs.Common.{◌≡◌, filter, map, ap, ◌∙◌}
use Rattle.design_model.specs.Views.{rectangle_of}
use Rattle.def_reader.specs.StatementViews.{records_view}
use Rattle.design_rules.specs.Boxes.{scale}
use Rattle.design_rules.specs.Surroundings.{keep_outs, surroundings}
use Rattle.staying_laws.specs.PlaceStatements.{surrounds_or_blocks}
use Rattle.design_text.specs.DesignTexts.{design_of}
use Rattle.followed_places.proofs.anew.lines_on_places.Goals as goal

pub surroundings_of-requires-clause-some : goal.surroundings_of-requires-clause-some
surroundings_of-requires-clause-some g c =
    let design = design_of c.args.text.now in
    let around : records_view c.deref-2.result.now ≡ filter surrounds_or_blocks design = ap records_view c.deref-2.ensures.value ∙ c.in_ok-around.ensures in
    let told = c.surroundings_are_told.ensures c.args.library.now design in
    rw (ap scale around ∙ told.scale) (rw c.statements_are_kept.ensures.said at c.units_are_good.ensures.some)

pub surroundings_of-requires-clause-few : goal.surroundings_of-requires-clause-few
surroundings_of-requires-clause-few g c =
    let design = design_of c.args.text.now in
    let around : records_view c.deref-2.result.now ≡ filter surrounds_or_blocks design = ap records_view c.deref-2.ensures.value ∙ c.in_ok-around.ensures in
    let told = c.surroundings_are_told.ensures c.args.library.now design in
    rw (ap scale around ∙ told.scale) (rw c.statements_are_kept.ensures.said at c.units_are_good.ensures.few)

pub lines_in_halves-requires-clause-some : goal.lines_in_halves-requires-clause-some
lines_in_halves-requires-clause-some g c =
    let design = design_of c.args.text.now in
    let around : records_view c.deref.result.now ≡ filter surrounds_or_blocks design = ap records_view c.deref.ensures.value ∙ c.in_ok-around.ensures in
    let told = c.surroundings_are_told.ensures c.args.library.now design in
    rw (c.scale_of-scale.ensures ∙ ap scale around ∙ told.scale) (rw c.statements_are_kept.ensures.said at c.units_are_good.ensures.some)

pub lines_in_halves-requires-clause-few : goal.lines_in_halves-requires-clause-few
lines_in_halves-requires-clause-few g c =
    let design = design_of c.args.text.now in
    let around : records_view c.deref.result.now ≡ filter surrounds_or_blocks design = ap records_view c.deref.ensures.value ∙ c.in_ok-around.ensures in
    let told = c.surroundings_are_told.ensures c.args.library.now design in
    rw (c.scale_of-scale.ensures ∙ ap scale around ∙ told.scale) (rw c.statements_are_kept.ensures.said at c.units_are_good.ensures.few)

pub returns : goal.returns
returns g c =
    let library = c.args.library.now in
    let design = design_of c.args.text.now in
    let told = c.surroundings_are_told.ensures library design in
    let around : records_view c.deref-2.result.now ≡ filter surrounds_or_blocks design = ap records_view c.deref-2.ensures.value ∙ c.in_ok-around.ensures in
    let units : c.scale_of-scale.result ≡ scale design = c.scale_of-scale.ensures ∙ ap scale (ap records_view c.deref.ensures.value ∙ c.in_ok-around.ensures) ∙ told.scale in
    let outs : map rectangle_of c.deref-4.result.now ≡ keep_outs design =
    ap (map rectangle_of) c.deref-4.ensures.value ∙ c.in_ok-keep_outs.ensures ∙ ap keep_outs (ap records_view c.deref-3.ensures.value ∙ c.in_ok-around.ensures) ∙ told.keep_outs in
    let same = rw (ap (surroundings library) around ∙ told.surroundings) at c.in_ok-surroundings.ensures in
    rw (outs, units) at (c.in_ok-lines.ensures (surroundings library design) same)
