use Rattle.std.proofs.Common.{◌≡◌, ◌++◌, drop, map}
use Rattle.kept_lines.proofs.merged.copies.Given as goal

abbrev pub invariant-loop-line : goal.invariant-loop-line
invariant-loop-line g l = l.copied.items ++ map (λ x. x.now) (drop l.line-index l.lines) ≡ map (λ x. x.now) l.lines
