use Rattle.std.proofs.Common.{◌∙◌, Some, ap, if◌then◌else◌}
use Rattle.std.specs.Str.{bytes_eq}
use Rattle.form_meanings.specs.Firsts.{find_named}
use Rattle.net_lists.specs.NetViews.{net_view}
use Rattle.reports.specs.DrawnNets.{found_after}
use Rattle.reports.specs.MeasuredNets.{MeasuredNet, name_of}
use Rattle.reports.proofs.DrawnSteps.{all_found, next_found}
use Rattle.reports.proofs.drawn_nets.measure_each.Goals as goal

pub loop-net_length-preserved : goal.loop-net_length-preserved
loop-net_length-preserved g c = λ name.
    let net = net_view c.in-Some.net in
    let table = c.loop-net_length.table in
    let put =
    c.in_ok-set.ensures name
    ∙ ap (λ (m : MeasuredNet). if bytes_eq net.name name then Some m else find_named name_of table name) c.measures_of-measures.ensures in
    next_found c.loop-net_length.left c.next.new.self net c.args.lengths.now c.loop-net_length.net_length-index table c.set.new.self name (found_after c.args.nets.now c.args.lengths.now name (find_named name_of c.args.table.now name)) c.in-Some.ensures.steps c.loop-net_length-test.true put
    (c.loop-net_length.invariant name)

pub returns : goal.returns
returns g c = λ name.
    all_found c.loop-net_length.left c.args.lengths.now c.loop-net_length.net_length-index name (find_named name_of c.loop-net_length.table name) (found_after c.args.nets.now c.args.lengths.now name (find_named name_of c.args.table.now name)) c.loop-net_length-test.false (c.loop-net_length.invariant name)
