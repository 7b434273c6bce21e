use Rattle.std.proofs.Common.{length}
use Rattle.script_lines.proofs.EscapeLemmas.{Unescaping}
use Rattle.script_lines.proofs.escape.unescaped.Given as goal

abbrev pub invariant-loop-byte : goal.invariant-loop-byte
invariant-loop-byte g l = Unescaping l.escaped.raw.now l.put.items l.rest

abbrev pub decreases-loop-byte : goal.decreases-loop-byte
decreases-loop-byte g l = length l.rest
