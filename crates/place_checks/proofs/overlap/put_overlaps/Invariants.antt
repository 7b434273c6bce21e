use Rattle.std.proofs.Common.{◌≡◌, ◌++◌, length}
use Rattle.place_checks.specs.Sweep.{InSweepOrder}
use Rattle.place_checks.proofs.SkipLemmas.{lines_of}
use Rattle.place_checks.proofs.overlap.put_overlaps.Given as goal

abbrev pub invariant-loop-next : goal.invariant-loop-next
invariant-loop-next g l = record {
  sorted : InSweepOrder l.left;
  so_far : l.lines ++ lines_of l.first l.left ≡ l.initial.lines ++ lines_of l.first l.others;
}

abbrev pub decreases-loop-next : goal.decreases-loop-next
decreases-loop-next g l = length l.left
