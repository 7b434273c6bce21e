use Rattle.std.proofs.Common.{◌≡◌, ◌++◌, take}
use Rattle.kept_lines.proofs.kept.KeptLines.copy_to.Given as goal

abbrev pub invariant-loop-line : goal.invariant-loop-line
invariant-loop-line g l = l.lines.items ≡ l.initial.lines.items ++ take l.line-index l.line-items
