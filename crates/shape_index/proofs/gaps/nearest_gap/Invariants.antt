use Rattle.std.proofs.Common.{◌<◌, ◌+◌, ◌-◌, ℕ}
use Rattle.shape_index.specs.GapOrder.{IsGap}
use Rattle.shape_index.proofs.gaps.nearest_gap.Given as goal

abbrev pub invariant-loop-distance : goal.invariant-loop-distance
invariant-loop-distance l = (k : ℕ) → k < l.place + l.distance → l.place < k + l.distance → ¬ IsGap l.order k

abbrev pub decreases-loop-distance : goal.decreases-loop-distance
decreases-loop-distance l = l.reach - l.distance
