use Rattle.std.proofs.Common.{◌≡◌, ◌≤◌, length}
use Rattle.via_parts.specs.RuleViews.{rule_clauses_of}
use Rattle.entry_references.proofs.RuleLemmas.{Listed}
use Rattle.entry_references.proofs.rules.push_rule.Given as goal

abbrev pub invariant-loop-clause : goal.invariant-loop-clause
invariant-loop-clause g l = record {
  listed : Listed l.fn.found.items l.found.items (rule_clauses_of l.left) (rule_clauses_of l.fn.parts.clauses);
  start : l.start ≡ length l.fn.found.items;
  within : l.start ≤ length l.found.items;
}

abbrev pub decreases-loop-clause : goal.decreases-loop-clause
decreases-loop-clause g l = l.left.most
