use Rattle.std.proofs.Common.{◌≡◌, arith, length, refl}
use Rattle.design_rules.specs.Boxes.{scale}
use Rattle.name_groups.specs.Groups.{Group}
use Rattle.net_entries.specs.declared.lent_entry.LentEntry.{LentEntry}
use Rattle.reports.proofs.OneNet.{as_many, measures_are}
use Rattle.reports.proofs.net_measures.only_net.Goals as goal

pub returns-then-len-ne1-clause-one : goal.returns-then-len-ne1-clause-one
returns-then-len-ne1-clause-one g c =
    let design = c.args.names.now in
    let has = c.in_ok-groups.ensures in
    let many = as_many c.args.library.now design (scale design) c.in_ok-groups.groups has in
    (λ some. absurd (cc), λ one. absurd (omega (arith, many, one, c.len.ensures, c.if-len-ne1.true)))

pub returns-clause-one : goal.returns-clause-one
returns-clause-one g c =
    let design = c.args.names.now in
    let has = c.in_ok-groups.ensures in
    let many = as_many c.args.library.now design (scale design) c.in_ok-groups.groups has in
    (λ some. omega (arith, many, c.len.ensures, c.if-len-ne1.false), λ one. refl)

pub returns-clause-measures : goal.returns-clause-measures
returns-clause-measures g c = λ name only.
    let library = c.args.library.now in
    let design = c.args.names.now in
    let groups = c.in_ok-groups.groups in
    let has = c.in_ok-groups.ensures in
    let group : Group LentEntry = record { name = c.at.result.0.now; members = c.at.result.1.now } in
    let one : length groups ≡ 1 = omega (arith, c.len.ensures, c.if-len-ne1.false) in
    measures_are library design (scale design) groups has group one c.at.ensures name only _ _ _ c.in_ok-measures.ensures
