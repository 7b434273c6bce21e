use Rattle.std.proofs.Common.{◌≤◌}
use Rattle.kept_nets.proofs.near.all_touching.Given as goal

abbrev pub invariant-loop-place : goal.invariant-loop-place
invariant-loop-place g l = l.fn.looks.tests ≤ l.looks.tests
