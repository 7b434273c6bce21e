use Rattle.std.proofs.Common.{◌≡◌, ◌<◌, ◌≤◌, ℕ, length}
use Rattle.part_classes.specs.Forest.{root_of}
use Rattle.part_classes.proofs.forest.root.Given as goal

abbrev pub invariant-loop-parents : goal.invariant-loop-parents
invariant-loop-parents l = record {
  within : l.at < length l.parents;
  least : l.at ≤ l.fn.part;
  size : length l.parents ≡ length l.fn.parents;
  same : (k : ℕ) → root_of l.parents k ≡ root_of l.fn.parents k;
  way : root_of l.fn.parents l.at ≡ root_of l.fn.parents l.part;
}

abbrev pub decreases-loop-parents : goal.decreases-loop-parents
decreases-loop-parents l = l.at
