use Rattle.std.proofs.Common.{◌≡◌}
use Rattle.std.specs.List.{list_any}
use Rattle.place_parts.specs.BlockageViews.{blockage_clauses_of}
use Rattle.connection_rules.specs.NetLines.{spares_power}
use Rattle.net_checks.proofs.barriers.spares_power.Given as goal

abbrev pub invariant-loop-clause : goal.invariant-loop-clause
invariant-loop-clause l = list_any spares_power (blockage_clauses_of l.left) ≡ list_any spares_power (blockage_clauses_of l.fn.clauses)

abbrev pub decreases-loop-clause : goal.decreases-loop-clause
decreases-loop-clause l = l.left.most
