use Rattle.std.proofs.Common.{rules, refl, ◌∙◌}
use Rattle.design_rules.specs.Boxes.{scale}
use Rattle.connection_rules.specs.NetParts.{Net}
use Rattle.measure_rules.specs.GridCells.{columns, rows}
use Rattle.name_groups.specs.Groups.{Group}
use Rattle.net_entries.specs.NetEntries.{wired_group}
use Rattle.net_entries.specs.declared.lent_entry.LentEntry.{LentEntry}
use Rattle.design_nets.specs.NetGroups.{length_of_group, net_of_group}
use Rattle.reports.proofs.MeasuredSteps.{all_measured, has_place, map_twice, next_measured}
use Rattle.reports.proofs.measured_nets.add_groups.Goals as goal

pub loop-place-preserved : goal.loop-place-preserved
loop-place-preserved g c =
    let library = c.args.library.now in
    let design = c.args.names.now in
    let u = scale design in
    let group : Group LentEntry = record { name = c.at.result.0.now; members = c.at.result.1.now } in
    let one : Group LentEntry → Net = λ x. net_of_group library design u (wired_group library design u x) in
    let seen = c.shapes.ensures ∙ rw (c.requires.same) at c.in_ok-length.ensures.shapes in
    let length = rw (c.requires.same) at c.in_ok-length.ensures.length in
    record {
      ready = c.in_ok-length.ensures.ready;
      so_far =
          next_measured (columns design) (rows design) one (λ x. length_of_group (wired_group library design u x)) c.args.groups.now
          c.loop-place.place group c.at.ensures refl c.shapes.result.now seen
          _ _ _ _ _ _ (rw (length) at c.in_ok-add.ensures.table) (rw (length) at c.in_ok-add.ensures.total) c.in_ok-add.ensures.cells c.loop-place.invariant.so_far;
    }

pub add-requires : goal.add-requires
add-requires g c =
    let library = c.args.library.now in
    let design = c.args.names.now in
    let u = scale design in
    let group : Group LentEntry = record { name = c.at.result.0.now; members = c.at.result.1.now } in
    has_place (columns design) (rows design) (λ (x : Group LentEntry). net_of_group library design u (wired_group library design u x)) (λ x. length_of_group (wired_group library design u x)) c.args.groups.now
    c.loop-place.place group c.at.ensures _ _ _ c.loop-place.invariant.so_far

pub returns : goal.returns
returns g c =
    let library = c.args.library.now in
    let design = c.args.names.now in
    let u = scale design in
    let one = λ (x : Group LentEntry). net_of_group library design u (wired_group library design u x) in
    let long = λ (x : Group LentEntry). length_of_group (wired_group library design u x) in
    rw (map_twice (wired_group library design u) (net_of_group library design u) c.args.groups.now, map_twice (wired_group library design u) length_of_group c.args.groups.now)
    (all_measured (columns design) (rows design) one long c.args.groups.now c.loop-place.place _ _ _ (search rules) c.loop-place.invariant.so_far)
