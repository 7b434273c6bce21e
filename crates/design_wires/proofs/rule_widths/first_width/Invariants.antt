use Rattle.std.proofs.Common.{◌≡◌}
use Rattle.via_parts.specs.RuleViews.{rule_clauses_of}
use Rattle.design_wires.specs.RuleLayers.{first_width}
use Rattle.design_wires.proofs.rule_widths.first_width.Given as goal

abbrev pub invariant-loop-clause : goal.invariant-loop-clause
invariant-loop-clause l = first_width l.layer (rule_clauses_of l.left) ≡ first_width l.fn.layer (rule_clauses_of l.fn.clauses)

abbrev pub decreases-loop-clause : goal.decreases-loop-clause
decreases-loop-clause l = l.left.most
