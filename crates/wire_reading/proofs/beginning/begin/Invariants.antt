use Rattle.wire_parts.specs.NetViews.{net_clauses_of}
use Rattle.wire_reading.proofs.BeginningSteps.{Going}
use Rattle.wire_reading.proofs.beginning.begin.Given as goal

abbrev pub invariant-loop-clause : goal.invariant-loop-clause
invariant-loop-clause l = Going (net_clauses_of l.fn.clauses) (net_clauses_of l.left) l.begun

abbrev pub decreases-loop-clause : goal.decreases-loop-clause
decreases-loop-clause l = l.left.most
