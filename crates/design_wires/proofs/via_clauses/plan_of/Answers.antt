use Rattle.via_parts.specs.ViaViews.{via_clause_view, via_clauses_of}
use Rattle.design_wires.proofs.ClauseLemmas.{stepped}
use Rattle.design_wires.proofs.via_clauses.plan_of.Goals as goal

pub loop-clause-preserved : goal.loop-clause-preserved
loop-clause-preserved c =
    stepped c.loop-clause.plan c.note.new.plan (via_clause_view c.in-Some.clause) (via_clauses_of c.loop-clause.left) (via_clauses_of c.next.new.self) (via_clauses_of c.args.clauses)
    c.loop-clause.invariant c.in-Some.ensures.step c.note.ensures.is c.note.ensures.in_range
