use Rattle.std.proofs.Common.{◌≡◌, ◌+◌, map, sum}
use Rattle.std.specs.Option.{option_map}
use Rattle.def_parts.specs.ClauseViews.{bytes_view}
use Rattle.wire_parts.specs.NetViews.{net_clauses_of}
use Rattle.entry_rules.specs.Unchecked.{unchecked_in_clause}
use Rattle.entry_references.specs.ReferenceViews.{references_view}
use Rattle.entry_references.proofs.NetSteps.{Walked}
use Rattle.entry_references.proofs.nets.push_clauses.Given as goal

abbrev pub invariant-loop-clause : goal.invariant-loop-clause
invariant-loop-clause g l = record {
  walked : Walked (references_view l.fn.found.items) (references_view l.found.items) (option_map bytes_view l.rule) (net_clauses_of l.left) (net_clauses_of l.fn.clauses);
  counted : l.unchecked + sum (map unchecked_in_clause (net_clauses_of l.left)) ≡ sum (map unchecked_in_clause (net_clauses_of l.fn.clauses));
}

abbrev pub decreases-loop-clause : goal.decreases-loop-clause
decreases-loop-clause g l = l.left.most
