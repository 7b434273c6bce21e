use Rattle.std.proofs.Common.{◌≡◌, ◌++◌, drop}
use Rattle.place_checks.proofs.SkipLemmas.{pairs_of}
use Rattle.place_checks.proofs.overlap.put_row.Given as goal

abbrev pub invariant-loop-i : goal.invariant-loop-i
invariant-loop-i g l = l.lines ++ pairs_of (drop l.i l.row ++ l.above) ≡ l.initial.lines ++ pairs_of (l.row ++ l.above)
