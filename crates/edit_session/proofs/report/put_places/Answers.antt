use Rattle.std.proofs.Common.{List, ◌++◌, flat_map, map, subst, ap, ◌∙◌}
use Rattle.std.specs.Prelude.{OnOk, ℕ}
use Rattle.std.specs.List.{filter_map}
use Rattle.design_model.specs.Families.{cross_lines, pair_lines}
use Rattle.design_model.specs.Views.{rectangle_of}
use Rattle.def_reader.specs.StatementViews.{record_view}
use Rattle.design_rules.specs.Boxes.{box_of}
use Rattle.design_rules.specs.OverlapLines.{overlap_of}
use Rattle.design_rules.specs.PlaceLines.{blocked_of, lines_in}
use Rattle.design_rules.specs.Surroundings.{keep_outs, surroundings}
use Rattle.line_laws.specs.Lines.{SameLines}
use Rattle.place_checks.specs.Views.{boxed_view}
use Rattle.edit_session.proofs.report.put_places.Goals as goal

pub boxes_among-requires-clause-some : goal.boxes_among-requires-clause-some
boxes_among-requires-clause-some g c = rw c.scale_of.ensures c.requires.some

pub boxes_among-requires-clause-few : goal.boxes_among-requires-clause-few
boxes_among-requires-clause-few g c = rw c.scale_of.ensures c.requires.few

pub returns : goal.returns
returns g c =
    let library = c.args.library.now in
    let design = map record_view c.args.records.now in
    let s = surroundings library design in
    let before = c.args.lines.now in
    let placed = filter_map (box_of library c.scale_of.result) design in
    let own = flat_map (lines_in s) placed in
    let those = ap (map boxed_view) c.deref.ensures.value ∙ c.in_ok-components.ensures in
    let begun = rw those at (c.in_ok-put_components.ensures.lines s c.in_ok-surroundings.ensures) in
    let swept = rw (c.new-boxes.ensures.items, those) at c.in_ok-put_components.ensures.boxes in
    let all = rw (c.deref-2.ensures.value, c.in_ok-keep_outs.ensures) at (c.put_lines_between.ensures.lines placed before own swept begun) in
    subst (λ (u : ℕ). OnOk c.put_lines_between.result (SameLines c.put_lines_between.new.lines (before ++ (pair_lines overlap_of (filter_map (box_of library u) design) ++ (flat_map (lines_in s) (filter_map (box_of library u) design) ++ cross_lines blocked_of (filter_map (box_of library u) design) (keep_outs design)))))) c.scale_of.ensures all
