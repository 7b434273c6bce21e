use Rattle.std.proofs.Common.{rules, map, ap, ◌∙◌}
use Rattle.connection_rules.specs.NetParts.{Net}
use Rattle.design_rules.specs.Boxes.{scale}
use Rattle.name_groups.specs.Groups.{Group}
use Rattle.net_entries.specs.NetEntries.{wired_group}
use Rattle.net_entries.specs.declared.lent_entry.LentEntry.{LentEntry}
use Rattle.design_nets.specs.NetGroups.{net_of_group}
use Rattle.design_nets.specs.PinsAlone.{pins_alone}
use Rattle.design_nets.proofs.NetLemmas.{nets_by_groups, next_net, no_net_more}
use Rattle.design_nets.proofs.PinLemmas.{in_two}
use Rattle.design_nets.proofs.pins.pins_of_nets.Goals as goal

pub loop-place-preserved : goal.loop-place-preserved
loop-place-preserved g c =
    let library = c.args.library.now in
    let design = c.args.names.now in
    let u = scale design in
    let gs = c.in_ok-groups.groups in
    let group : Group LentEntry = record { name = c.at.result.0.now; members = c.at.result.1.now } in
    let here = c.at.ensures in
    let net = rw (c.in_ok-pins.ensures) at c.in_ok-put_pins_alone.ensures.net in
    record {
      walk = rw (c.in_ok-pins.ensures) at c.in_ok-put_pins_alone.ensures.walk;
      nets = next_net (λ x. pins_alone (net_of_group library design u (wired_group library design u x))) gs c.loop-place.place c.loop-place.nets _ c.loop-place.invariant.nets group c.put_pins_alone.new.nets here net;
    }

pub returns : goal.returns
returns g c =
    let library = c.args.library.now in
    let design = c.args.names.now in
    let u = scale design in
    let gs = c.in_ok-groups.groups in
    let whole : Group LentEntry → Net = λ x. net_of_group library design u (wired_group library design u x) in
    let one : Group LentEntry → Net = λ x. pins_alone (whole x) in
    let wired = rw (c.records.ensures) at (c.in_ok-groups.ensures.entries.wired library design u) in
    no_net_more one gs c.loop-place.place c.loop-place.nets _ c.loop-place.invariant.nets (search rules)
    ∙ (in_two pins_alone whole gs
    ∙ ap (map pins_alone)
    (in_two (net_of_group library design u) (wired_group library design u) gs
    ∙ (ap (map (net_of_group library design u)) wired
    ∙ nets_by_groups library design u)))
