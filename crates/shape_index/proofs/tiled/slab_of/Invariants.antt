use Rattle.std.proofs.Common.{map, ◌+◌, ◌-◌, ◌≤◌, length, take}
use Rattle.slab.specs.Slab.{entries, slab_len}
use Rattle.line_laws.specs.Lines.{SameThings}
use Rattle.shape_index.specs.Shapes.{numbered}
use Rattle.shape_index.proofs.tiled.slab_of.Given as goal

abbrev pub invariant-loop-shape : goal.invariant-loop-shape
invariant-loop-shape g l = record {
  room : slab_len l.slab + (length l.shapes - l.shape-index) ≤ l.slab.capacity;
  put : SameThings (map (λ e. e.1) (numbered (entries l.slab))) (take l.shape-index l.shapes);
}
