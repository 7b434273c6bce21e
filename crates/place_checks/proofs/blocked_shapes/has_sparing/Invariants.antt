use Rattle.std.proofs.Common.{◌≡◌}
use Rattle.std.specs.List.{list_any}
use Rattle.place_parts.specs.BlockageViews.{blockage_clauses_of}
use Rattle.entry_rules.specs.Blocked.{is_sparing}
use Rattle.place_checks.proofs.blocked_shapes.has_sparing.Given as goal

abbrev pub invariant-loop-clause : goal.invariant-loop-clause
invariant-loop-clause l = list_any is_sparing (blockage_clauses_of l.left) ≡ list_any is_sparing (blockage_clauses_of l.fn.clauses)

abbrev pub decreases-loop-clause : goal.decreases-loop-clause
decreases-loop-clause l = l.left.most
