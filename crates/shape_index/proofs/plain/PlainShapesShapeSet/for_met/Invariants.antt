use Rattle.std.proofs.Common.{◌≡◌, ◌≤◌, ◌<◌, ◌+◌, ◌^◌, length}
use Rattle.std.specs.List.{FoldsTo}
use Rattle.slab.specs.Slab.{entries}
use Rattle.shape_index.specs.Shapes.{met_by, numbered}
use Rattle.shape_index.proofs.plain.PlainShapesShapeSet.for_met.Given as goal

abbrev pub invariant-loop-id : goal.invariant-loop-id
invariant-loop-id g l = record {
  next : (goal.iterator-loop-id g).can_next l.id-iterator;
  finite : (goal.iterator-loop-id g).is_finite l.id-iterator;
  callable : goal.F-IsAlwaysCallable g l.f;
  counted : l.compared + length l.id-iterator ≤ length (entries l.self.shapes);
  few : length (entries l.self.shapes) < 2 ^ 64;
  least : length (met_by l.layer l.rect (numbered (entries l.self.shapes))) ≤ l.compared + length (met_by l.layer l.rect (numbered l.id-iterator));
  rest : (last : _) → FoldsTo (λ a e b. (shown : _) × (shown.now ≡ e.1) × goal.F-post g l.f a e.0 shown b) l.acc (met_by l.layer l.rect (numbered l.id-iterator)) last
      → FoldsTo (λ a e b. (shown : _) × (shown.now ≡ e.1) × goal.F-post g l.f a e.0 shown b) l.fn.acc (met_by l.layer l.rect (numbered (entries l.self.shapes))) last;
}
