use Rattle.std.proofs.Common.{◌≡◌}
use Rattle.form_meanings.specs.Firsts.{first_of}
use Rattle.wire_parts.specs.NetViews.{net_clauses_of}
use Rattle.connection_rules.specs.NetParts.{use_of_clause}
use Rattle.net_entries.proofs.power.net_use.Given as goal

abbrev pub invariant-loop-clause : goal.invariant-loop-clause
invariant-loop-clause l = first_of use_of_clause (net_clauses_of l.left) ≡ first_of use_of_clause (net_clauses_of l.fn.clauses)

abbrev pub decreases-loop-clause : goal.decreases-loop-clause
decreases-loop-clause l = l.left.most
