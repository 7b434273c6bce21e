use Rattle.std.proofs.Common.{◌≡◌, ◌++◌, drop, map}
use Rattle.kept_lines.proofs.merged.lent.Given as goal

abbrev pub invariant-loop-line : goal.invariant-loop-line
invariant-loop-line g l = map (λ x. x.now) l.lines.items ++ drop l.line-index l.line-items ≡ l.line-items
