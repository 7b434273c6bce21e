use Rattle.std.proofs.Common.{sym, ◌∙◌}
use Rattle.lefdef_tokens.specs.Views.{pieces_of, rest_of}
use Rattle.place_parts.specs.ClauseViews.{clause_view, clauses_of}
use Rattle.place_parts.proofs.PlacingSteps.{passing_on, found_count}
use Rattle.place_parts.proofs.placing.placing_clause.Goals as goal

pub returns-then-is_placing-clause-count : goal.returns-then-is_placing-clause-count
returns-then-is_placing-clause-count c =
    let l = c.loop-clause in
    let e = c.in-Some.ensures in
    rw (l.invariant.at, c.len-after.ensures)
    (found_count (clauses_of c.args.clauses) (rest_of c.args.clauses.cursor) (pieces_of c.args.clauses.cursor.tokens) (clauses_of l.left) (rest_of l.left.cursor) (pieces_of l.left.cursor.tokens) l.invariant.passing (clause_view c.in-Some.clause) (clauses_of c.next.new.self) (rest_of c.next.new.self.cursor) e.step e.reads (sym c.is_placing.ensures ∙ c.if-is_placing.true))

pub loop-clause-preserved : goal.loop-clause-preserved
loop-clause-preserved c =
    let l = c.loop-clause in
    let e = c.in-Some.ensures in
    record {
      passing = passing_on (clauses_of c.args.clauses) (rest_of c.args.clauses.cursor) (pieces_of c.args.clauses.cursor.tokens) (clauses_of l.left) (rest_of l.left.cursor) (pieces_of l.left.cursor.tokens) l.invariant.passing (clause_view c.in-Some.clause) (clauses_of c.next.new.self) (rest_of c.next.new.self.cursor) e.step e.reads (pieces_of c.next.new.self.cursor.tokens) e.left (sym c.is_placing.ensures ∙ c.if-is_placing.false);
      at = c.len-after.ensures;
    }
