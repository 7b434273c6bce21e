use Rattle.std.proofs.Common.{◌≤◌, ◌<◌, ◌-◌, ℕ, length}
use Rattle.std.specs.Prelude.{slice_index_or}
use Rattle.shape_index.specs.Tiles.{key}
use Rattle.shape_index.specs.TileOrder.{Before, listed}
use Rattle.shape_index.proofs.tile_order.first_from.Given as goal

abbrev pub invariant-loop-low : goal.invariant-loop-low
invariant-loop-low g l = record {
  behind : l.from ≤ l.low;
  below : l.low ≤ l.high;
  within : l.high ≤ length l.order;
  passed : (k : ℕ) (d : _) → l.from ≤ k → k < l.low → Before (key (slice_index_or (listed l.shapes l.order) k d)) l.next;
  left : (k : ℕ) (d : _) → l.high ≤ k → k < length l.order → ¬ Before (key (slice_index_or (listed l.shapes l.order) k d)) l.next;
}

abbrev pub decreases-loop-low : goal.decreases-loop-low
decreases-loop-low g l = l.high - l.low
