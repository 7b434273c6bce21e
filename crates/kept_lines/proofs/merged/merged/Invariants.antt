use Rattle.std.proofs.Common.{◌≡◌, ◌++◌, length}
use Rattle.kept_lines.specs.Merging.{left_of}
use Rattle.kept_lines.proofs.merged.merged.Given as goal

abbrev pub invariant-loop-line : goal.invariant-loop-line
invariant-loop-line g l = l.lines.items ++ left_of l.first l.second l.first_at l.second_at ≡ left_of l.first l.second 0 0

abbrev pub decreases-loop-line : goal.decreases-loop-line
decreases-loop-line g l = length (left_of l.first l.second l.first_at l.second_at)
