use Rattle.std.proofs.Common.{◌≤◌}
use Rattle.kept_nets.proofs.near.touching_pin.Given as goal

abbrev pub invariant-loop-shape : goal.invariant-loop-shape
invariant-loop-shape g l = l.fn.looks.tests ≤ l.looks.tests
