use Rattle.std.proofs.Common.{◌≡◌}
use Rattle.design_wires.specs.ViaRectsLeft.{clauses_left}
use Rattle.design_wires.proofs.via_rects.next_listed.Given as goal

abbrev pub invariant-loop-clause : goal.invariant-loop-clause
invariant-loop-clause l = clauses_left l.clauses ≡ clauses_left l.fn.clauses

abbrev pub decreases-loop-clause : goal.decreases-loop-clause
decreases-loop-clause l = l.clauses.most
