use Rattle.std.proofs.Common.{◌≡◌}
use Rattle.std.specs.List.{list_any}
use Rattle.wire_parts.specs.WiringViews.{marks_of}
use Rattle.entry_rules.specs.Unchecked.{is_style}
use Rattle.entry_checks.proofs.unchecked_special_nets.has_style.Given as goal

abbrev pub invariant-loop-mark : goal.invariant-loop-mark
invariant-loop-mark l = list_any is_style (marks_of l.left) ≡ list_any is_style (marks_of l.fn.marks)

abbrev pub decreases-loop-mark : goal.decreases-loop-mark
decreases-loop-mark l = l.left.most
