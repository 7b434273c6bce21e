use Rattle.std.proofs.Common.{◌≡◌, length}
use Rattle.lefdef_tokens.specs.Views.{pieces_of, rest_of}
use Rattle.place_parts.specs.ClauseViews.{clauses_of}
use Rattle.place_parts.proofs.PlacingSteps.{Passing}
use Rattle.place_parts.proofs.placing.placing_clause.Given as goal

abbrev pub invariant-loop-clause : goal.invariant-loop-clause
invariant-loop-clause l = record {
  passing : Passing (clauses_of l.fn.clauses) (rest_of l.fn.clauses.cursor) (pieces_of l.fn.clauses.cursor.tokens) (clauses_of l.left) (rest_of l.left.cursor) (pieces_of l.left.cursor.tokens);
  at : l.at ≡ length (rest_of l.left.cursor).words;
}

abbrev pub decreases-loop-clause : goal.decreases-loop-clause
decreases-loop-clause l = l.left.most
