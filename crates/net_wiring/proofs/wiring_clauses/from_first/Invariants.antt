use Rattle.std.proofs.Common.{length}
use Rattle.net_wiring.specs.WiringViews.{passes}
use Rattle.net_wiring.proofs.WiringLemmas.{Passing}
use Rattle.net_wiring.proofs.wiring_clauses.from_first.Given as goal

abbrev pub invariant-loop-role : goal.invariant-loop-role
invariant-loop-role g l =
    Passing (λ r. passes r l.test) (g.C.WiringClauses.left l.fn.clauses) (g.C.WiringClauses.left l.left) (g.C.WiringClauses.tokens l.fn.clauses) (g.C.WiringClauses.tokens l.left)

abbrev pub decreases-loop-role : goal.decreases-loop-role
decreases-loop-role g l = length (g.C.WiringClauses.left l.left)
