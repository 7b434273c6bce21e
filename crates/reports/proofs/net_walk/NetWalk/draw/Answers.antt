use Rattle.std.proofs.Common.{flat_map, map, refl, ap, ◌∙◌}
use Rattle.std.proofs.lemmas.Result.{on_ok_weaker}
use Rattle.connection_rules.specs.NetLines.{shapes_of_net}
use Rattle.design_rules.specs.Boxes.{scale}
use Rattle.name_groups.specs.Groups.{Group}
use Rattle.net_entries.specs.NetEntries.{wired_group}
use Rattle.net_entries.specs.declared.lent_entry.LentEntry.{LentEntry}
use Rattle.design_nets.specs.NetGroups.{net_of_group}
use Rattle.net_lists.proofs.ShapeLemmas.{bare}
use Rattle.reports.proofs.MeasuredSteps.{same_shapes}
use Rattle.reports.proofs.net_walk.NetWalk.draw.Goals as goal

pub returns-clause-shapes : goal.returns-clause-shapes
returns-clause-shapes g c =
    let design = c.args.wires.now.design in
    let library = c.args.wires.now.library in
    let group : Group LentEntry = record { name = c.args.name.now; members = c.args.entries.now } in
    on_ok_weaker c.put_net.result
    (λ net. ap (λ ns. map bare (flat_map shapes_of_net ns)) (rw (c.clear.ensures) at net) ∙ same_shapes _ (net_of_group library design (scale design) (wired_group library design (scale design) group)) refl)
    c.put_net.ensures.net
