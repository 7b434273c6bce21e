use Rattle.std.proofs.Common.{◌≡◌, ◌++◌, drop}
use Rattle.place_checks.proofs.SkipLemmas.{lines_of}
use Rattle.place_checks.proofs.overlap.put_beside.Given as goal

abbrev pub invariant-loop-next : goal.invariant-loop-next
invariant-loop-next g l = l.lines ++ lines_of l.first (drop l.next-index l.row) ≡ l.initial.lines ++ lines_of l.first l.row
