use Rattle.std.proofs.Common.{◌≡◌, ◌+◌}
use Rattle.entry_checks.proofs.unchecked_parts.count_unchecked.Given as goal

abbrev pub invariant-loop-more : goal.invariant-loop-more
invariant-loop-more g l = l.count + g.P.UncheckedParts.unchecked l.left ≡ g.P.UncheckedParts.unchecked l.fn.parts

abbrev pub decreases-loop-more : goal.decreases-loop-more
decreases-loop-more g l = g.P.UncheckedParts.left l.left
