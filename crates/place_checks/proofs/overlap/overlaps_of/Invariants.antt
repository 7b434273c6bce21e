use Rattle.std.proofs.Common.{◌≡◌, ◌++◌, length}
use Rattle.place_checks.specs.Sweep.{InSweepOrder}
use Rattle.place_checks.proofs.SkipLemmas.{pairs_of}
use Rattle.place_checks.proofs.overlap.overlaps_of.Given as goal

abbrev pub invariant-loop-first : goal.invariant-loop-first
invariant-loop-first g l = record {
  sorted : InSweepOrder l.left;
  so_far : l.lines ++ pairs_of l.left ≡ l.initial.lines ++ pairs_of l.boxes;
}

abbrev pub decreases-loop-first : goal.decreases-loop-first
decreases-loop-first g l = length l.left
