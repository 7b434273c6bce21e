use Rattle.std.proofs.Common.{ap, ◌∙◌}
use Rattle.reports.specs.MeasuredNets.{measured_at}
use Rattle.reports.proofs.measured_nets.MeasuredNets.add.Goals as goal

pub returns-clause-table : goal.returns-clause-table
returns-clause-table g c =
    c.set_at.ensures
    ∙ ap (λ b. measured_at c.args.place c.args.net_length b c.args.self.now.table) c.box_round.ensures
