use Rattle.std.proofs.Common.{◌≤◌, ◌<◌, ◌-◌, ℕ, length}
use Rattle.std.specs.Prelude.{slice_index_or}
use Rattle.shape_index.specs.Shapes.{AreSame}
use Rattle.shape_index.specs.Tiles.{key}
use Rattle.shape_index.specs.TileOrder.{Before, listed}
use Rattle.shape_index.proofs.tile_order.find_same.Given as goal

abbrev pub invariant-loop-id : goal.invariant-loop-id
invariant-loop-id g l = record {
  passed : (k : ℕ) (d : _) → k < l.slot → ¬ AreSame (slice_index_or (listed l.shapes l.order) k d).1 l.sought;
  left : (k : ℕ) (d : _) → l.slot ≤ k → k < length l.order → ¬ Before (key (slice_index_or (listed l.shapes l.order) k d)) l.tile;
}

abbrev pub decreases-loop-id : goal.decreases-loop-id
decreases-loop-id g l = length l.order - l.slot
