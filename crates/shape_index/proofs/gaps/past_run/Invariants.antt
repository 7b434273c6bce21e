use Rattle.std.proofs.Common.{◌≡◌, ◌≤◌, ◌<◌, ◌-◌, ℕ, length}
use Rattle.std.specs.Prelude.{slice_index_or}
use Rattle.shape_index.proofs.gaps.past_run.Given as goal

abbrev pub invariant-loop-past : goal.invariant-loop-past
invariant-loop-past l = record {
  some : l.place < l.past;
  within : l.past ≤ length l.order;
  same : (k : ℕ) (d : _) → l.place ≤ k → k < l.past → slice_index_or l.order k d ≡ slice_index_or l.order l.place d;
}

abbrev pub decreases-loop-past : goal.decreases-loop-past
decreases-loop-past l = length l.order - l.past
