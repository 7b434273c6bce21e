use Rattle.std.proofs.Common.{◌≤◌, ◌+◌, drop, sum_by}
use Rattle.kept_nets.proofs.SureShapes.{weigh}
use Rattle.kept_nets.proofs.looks.sure_in.Given as goal

abbrev pub invariant-loop-shape : goal.invariant-loop-shape
invariant-loop-shape g l = l.count + sum_by weigh (drop l.shape-index l.own) ≤ sum_by weigh l.own
