use Rattle.std.proofs.Common.{◌≤◌}
use Rattle.kept_nets.proofs.joint.joint_by.Given as goal

abbrev pub invariant-loop-round : goal.invariant-loop-round
invariant-loop-round g l = l.fn.looks.tests ≤ l.looks.tests
