use Rattle.std.proofs.Common.{◌≡◌}
use Rattle.lefdef_tokens.specs.Views.{IsLater}
use Rattle.wire_parts.specs.SpecialWireViews.{of_special_clauses}
use Rattle.wire_parts.proofs.special_wires.next_wires.Given as goal

abbrev pub invariant-loop-clause : goal.invariant-loop-clause
invariant-loop-clause l = record {
  same : of_special_clauses l.clauses ≡ of_special_clauses l.fn.clauses;
  later : IsLater l.fn.clauses.cursor l.clauses.cursor;
}

abbrev pub decreases-loop-clause : goal.decreases-loop-clause
decreases-loop-clause l = l.clauses.most
