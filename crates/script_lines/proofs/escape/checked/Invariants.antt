use Rattle.std.proofs.Common.{◌≤◌, ◌+◌, length}
use Rattle.script_lines.proofs.EscapeLemmas.{Counting}
use Rattle.script_lines.proofs.escape.checked.Given as goal

abbrev pub invariant-loop-later : goal.invariant-loop-later
invariant-loop-later l = record {
  so_far : Counting l.raw l.len l.rest;
  few : l.len + length l.rest ≤ length l.raw;
}

abbrev pub decreases-loop-later : goal.decreases-loop-later
decreases-loop-later l = length l.rest
