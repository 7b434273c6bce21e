use Rattle.std.proofs.Common.{◌≤◌}
use Rattle.kept_nets.proofs.near.touching_pins.Given as goal

abbrev pub invariant-loop-place : goal.invariant-loop-place
invariant-loop-place g l = l.fn.looks.tests ≤ l.looks.tests
