use Rattle.place_parts.specs.PinViews.{pin_clause_view, pin_clauses_of}
use Rattle.net_pins.specs.PortViews.{vias_in}
use Rattle.net_pins.proofs.ClauseLemmas.{none_first, some_first}
use Rattle.net_pins.proofs.design_pins.counts.Goals as goal

pub returns-then-clause_has_shape-clause-value : goal.returns-then-clause_has_shape-clause-value
returns-then-clause_has_shape-clause-value g c =
    some_first c.args.of.now.library.now.layers (vias_in c.args.of.now) (pin_clauses_of c.loop-clause.left) (pin_clauses_of c.next.new.self) (pin_clause_view c.in-Some.clause) _ c.clause_has_shape.result
    c.in-Some.ensures.step c.loop-clause.invariant.left c.clause_has_shape.ensures.value c.if-clause_has_shape.true

pub loop-clause-preserved : goal.loop-clause-preserved
loop-clause-preserved g c =
    record {
      known = c.clause_has_shape.ensures.known;
      left =
          none_first c.args.of.now.library.now.layers (vias_in c.args.of.now) (pin_clauses_of c.loop-clause.left) (pin_clauses_of c.next.new.self) (pin_clause_view c.in-Some.clause) _ c.clause_has_shape.result
          c.in-Some.ensures.step c.loop-clause.invariant.left c.clause_has_shape.ensures.value c.if-clause_has_shape.false;
    }
