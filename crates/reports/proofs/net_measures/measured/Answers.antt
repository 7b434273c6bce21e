use Rattle.std.proofs.Common.{map, ap, ◌∙◌}
use Rattle.std.specs.Option.{option_map}
use Rattle.design_model.specs.Views.{rectangle_of}
use Rattle.design_rules.specs.Boxes.{scale}
use Rattle.measure_rules.specs.NetBoxes.{box_round}
use Rattle.name_groups.specs.Groups.{Group}
use Rattle.net_lists.specs.PartCuts.{shape_view}
use Rattle.net_entries.specs.NetEntries.{wired_group}
use Rattle.net_entries.specs.declared.lent_entry.LentEntry.{LentEntry}
use Rattle.design_nets.specs.NetGroups.{length_of_group, net_of_group}
use Rattle.reports.specs.MeasuredNets.{shape_box}
use Rattle.reports.proofs.OneNet.{are_measures}
use Rattle.reports.proofs.net_measures.measured.Goals as goal

pub returns : goal.returns
returns g c =
    let library = c.args.library.now in
    let design = c.args.names.now in
    let u = scale design in
    let group : Group LentEntry = record { name = c.args.name.now; members = c.args.entries.now } in
    let wired = wired_group library design u group in
    let length = rw (c.requires.same) at c.in_ok-length.ensures.length in
    let seen = ap (map shape_view) c.in_ok-shapes.ensures.items ∙ c.shapes.ensures ∙ rw (c.requires.same) at c.in_ok-length.ensures.shapes in
    let round = c.box_round-bounds.ensures ∙ ap (λ ss. box_round (map shape_box ss)) c.deref.ensures.value in
    are_measures (net_of_group library design u wired) _ seen (length_of_group wired) _ (option_map rectangle_of c.box_round-bounds.result) length round
