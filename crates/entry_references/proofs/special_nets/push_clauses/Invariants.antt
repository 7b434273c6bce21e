use Rattle.std.proofs.Common.{◌≡◌, ◌++◌, flat_map}
use Rattle.wire_parts.specs.SpecialNetViews.{special_clauses_of}
use Rattle.entry_rules.specs.References.{special_clause_references}
use Rattle.entry_references.specs.ReferenceViews.{references_view}
use Rattle.entry_references.proofs.special_nets.push_clauses.Given as goal

abbrev pub invariant-loop-clause : goal.invariant-loop-clause
invariant-loop-clause g l =
    references_view l.found.items ++ flat_map special_clause_references (special_clauses_of l.left) ≡ references_view l.fn.found.items ++ flat_map special_clause_references (special_clauses_of l.fn.clauses)

abbrev pub decreases-loop-clause : goal.decreases-loop-clause
decreases-loop-clause g l = l.left.most
