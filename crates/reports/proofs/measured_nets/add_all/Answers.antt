use Rattle.std.proofs.Common.{map, ap, ◌∙◌}
use Rattle.design_rules.specs.Boxes.{scale}
use Rattle.design_nets.specs.NetGroups.{length_of_group, net_of_group}
use Rattle.design_nets.proofs.NetLemmas.{lengths_by_groups, nets_by_groups}
use Rattle.reports.specs.MeasuredNets.{name_of}
use Rattle.reports.proofs.MeasuredSteps.{names_alone}
use Rattle.reports.proofs.measured_nets.add_all.Goals as goal

pub entries_by_net-requires : goal.entries_by_net-requires
entries_by_net-requires g c = ap (map name_of) c.requires.table

pub add_groups-requires-clause-none : goal.add_groups-requires-clause-none
add_groups-requires-clause-none g c = rw (c.requires.total) (names_alone _ _ _ _ _ c.in_ok-groups.ensures.names c.requires.cells)

pub returns : goal.returns
returns g c =
    let library = c.args.library.now in
    let design = c.args.names.now in
    let u = scale design in
    let wired = rw (c.records.ensures) at (c.in_ok-groups.ensures.entries.wired library design u) in
    rw (ap (map (net_of_group library design u)) wired ∙ nets_by_groups library design u, ap (map length_of_group) wired ∙ lengths_by_groups library design u) at c.add_groups.ensures
