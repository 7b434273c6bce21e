use Rattle.std.proofs.Common.{◌≡◌}
use Rattle.form_meanings.specs.Firsts.{first_of}
use Rattle.via_parts.specs.ViaViews.{via_clauses_of}
use Rattle.entry_rules.specs.ViaLayers.{rule_of_via}
use Rattle.entry_checks.proofs.via_layers.is_generated.Given as goal

abbrev pub invariant-loop-clause : goal.invariant-loop-clause
invariant-loop-clause l = first_of rule_of_via (via_clauses_of l.left) ≡ first_of rule_of_via (via_clauses_of l.fn.clauses)

abbrev pub decreases-loop-clause : goal.decreases-loop-clause
decreases-loop-clause l = l.left.most
