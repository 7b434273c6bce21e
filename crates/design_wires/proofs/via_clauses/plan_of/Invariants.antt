use Rattle.via_parts.specs.ViaViews.{via_clauses_of}
use Rattle.design_wires.proofs.ClauseLemmas.{Going}
use Rattle.design_wires.proofs.via_clauses.plan_of.Given as goal

abbrev pub invariant-loop-clause : goal.invariant-loop-clause
invariant-loop-clause l = Going l.plan (via_clauses_of l.left) (via_clauses_of l.fn.clauses)

abbrev pub decreases-loop-clause : goal.decreases-loop-clause
decreases-loop-clause l = l.left.most
