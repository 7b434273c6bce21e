use Rattle.std.proofs.Common.{◌≤◌, ◌+◌, drop, sum_by}
use Rattle.kept_nets.proofs.SureShapes.{own_weight}
use Rattle.kept_nets.proofs.looks.sure_in_all.Given as goal

abbrev pub invariant-loop-part : goal.invariant-loop-part
invariant-loop-part g l = l.count + sum_by own_weight (drop l.part-index l.parts) ≤ sum_by own_weight l.parts
