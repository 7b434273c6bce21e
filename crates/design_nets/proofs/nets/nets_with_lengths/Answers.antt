use Rattle.std.proofs.Common.{rules, ℕ, map, refl, ap, ◌∙◌}
use Rattle.connection_rules.specs.NetParts.{Net}
use Rattle.design_rules.specs.Boxes.{scale}
use Rattle.name_groups.specs.Groups.{Group}
use Rattle.net_entries.specs.NetEntries.{wired_group}
use Rattle.net_entries.specs.declared.lent_entry.LentEntry.{LentEntry}
use Rattle.design_nets.specs.NetGroups.{length_of_group, net_of_group}
use Rattle.design_nets.proofs.NetLemmas.{by_two, lengths_by_groups, nets_by_groups, next_net, no_net_more}
use Rattle.design_nets.proofs.nets.nets_with_lengths.Goals as goal

pub loop-place-preserved : goal.loop-place-preserved
loop-place-preserved g c =
    let library = c.args.library.now in
    let design = c.args.names.now in
    let u = scale design in
    let gs = c.in_ok-groups.groups in
    let group : Group LentEntry = record { name = c.at.result.0.now; members = c.at.result.1.now } in
    let here = c.at.ensures in
    let net = rw (c.requires.same, c.is_power.ensures library design u) at c.in_ok-length.ensures.net in
    let length = rw (c.requires.same) at c.in_ok-length.ensures.length in
    record {
      pin_walk = c.in_ok-length.ensures.pin_walk;
      part_walk = c.in_ok-length.ensures.part_walk;
      nets = next_net (λ x. net_of_group library design u (wired_group library design u x)) gs c.loop-place.place c.loop-place.nets _ c.loop-place.invariant.nets group c.put_net.new.nets here net;
      lengths = next_net (λ x. length_of_group (wired_group library design u x)) gs c.loop-place.place c.loop-place.lengths.items _ c.loop-place.invariant.lengths group c.push.new.self.items here (rw (length) at c.in_ok-push.ensures.items);
    }

pub returns-clause-nets : goal.returns-clause-nets
returns-clause-nets g c =
    let library = c.args.library.now in
    let design = c.args.names.now in
    let u = scale design in
    let gs = c.in_ok-groups.groups in
    let one : Group LentEntry → Net = λ x. net_of_group library design u (wired_group library design u x) in
    let wired = rw (c.records.ensures) at (c.in_ok-groups.ensures.entries.wired library design u) in
    no_net_more one gs c.loop-place.place c.loop-place.nets _ c.loop-place.invariant.nets (search rules)
    ∙ by_two one gs c.loop-place.place c.loop-place.nets _ c.loop-place.invariant.nets (wired_group library design u) (net_of_group library design u) (λ h. refl)
    ∙ ap (map (net_of_group library design u)) wired
    ∙ nets_by_groups library design u

pub returns-clause-lengths : goal.returns-clause-lengths
returns-clause-lengths g c =
    let library = c.args.library.now in
    let design = c.args.names.now in
    let u = scale design in
    let gs = c.in_ok-groups.groups in
    let one : Group LentEntry → ℕ = λ x. length_of_group (wired_group library design u x) in
    let wired = rw (c.records.ensures) at (c.in_ok-groups.ensures.entries.wired library design u) in
    no_net_more one gs c.loop-place.place c.loop-place.lengths.items _ c.loop-place.invariant.lengths (search rules)
    ∙ by_two one gs c.loop-place.place c.loop-place.lengths.items _ c.loop-place.invariant.lengths (wired_group library design u) length_of_group (λ h. refl)
    ∙ ap (map length_of_group) wired
    ∙ lengths_by_groups library design u
