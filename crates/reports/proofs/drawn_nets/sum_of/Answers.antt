use Rattle.std.proofs.Common.{◌∙◌}
use Rattle.reports.proofs.DrawnSteps.{next_sum}
use Rattle.reports.proofs.drawn_nets.sum_of.Goals as goal

pub loop-net_length-preserved : goal.loop-net_length-preserved
loop-net_length-preserved c = c.saturating_add-total.ensures ∙ next_sum c.args.lengths.now c.loop-net_length.net_length-index c.loop-net_length.total c.loop-net_length-test.true c.loop-net_length.invariant
