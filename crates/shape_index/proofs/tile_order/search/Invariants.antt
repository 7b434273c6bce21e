use Rattle.std.proofs.Common.{◌≡◌, ◌≤◌, ◌-◌, ◌+◌, length, drop}
use Rattle.std.specs.List.{FoldsTo}
use Rattle.shape_index.specs.Shapes.{met_by}
use Rattle.shape_index.specs.Tiles.{near_count}
use Rattle.shape_index.specs.TileOrder.{listed, once}
use Rattle.shape_index.proofs.tile_order.search.Given as goal

abbrev pub invariant-loop-id : goal.invariant-loop-id
invariant-loop-id g l = record {
  callable : goal.F-IsAlwaysCallable g l.f;
  within : l.place ≤ length l.order;
  counted : l.compared + near_count l.layer l.rect (once (drop l.place (listed l.shapes l.order))) ≤ near_count l.layer l.rect (once (listed l.shapes l.order));
  least : length (met_by l.layer l.rect (once (listed l.shapes l.order))) ≤ l.compared + length (met_by l.layer l.rect (once (drop l.place (listed l.shapes l.order))));
  rest : (last : _) → FoldsTo (λ a e b. (shown : _) × (shown.now ≡ e.1) × goal.F-post g l.f a e.0 shown b) l.acc (met_by l.layer l.rect (once (drop l.place (listed l.shapes l.order)))) last
      → FoldsTo (λ a e b. (shown : _) × (shown.now ≡ e.1) × goal.F-post g l.f a e.0 shown b) l.fn.acc (met_by l.layer l.rect (once (listed l.shapes l.order))) last;
}

abbrev pub decreases-loop-id : goal.decreases-loop-id
decreases-loop-id g l = length l.order - l.place
