use Rattle.std.proofs.Common.{arith}
use Rattle.kept_nets.proofs.joint.is_within.Goals as goal

pub returns-then-with-without-clause-least : goal.returns-then-with-without-clause-least
returns-then-with-without-clause-least g c = λ yes. omega (arith, c.in_ok-with.ensures.least, c.add.ensures.all, c.add-2.ensures.all)
