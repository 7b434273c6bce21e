use Rattle.std.proofs.Common.{◌≡◌, ◌≤◌, ◌+◌, ◌-◌, ◌^◌, List, ℕ, length, min, sum_by, drop}
use Rattle.std.specs.List.{flat_map}
use Rattle.net_lists.specs.Counts.{shape_count}
use Rattle.net_lists.specs.PartCuts.{parts_of}
use Rattle.shape_index.specs.Shapes.{met_count}
use Rattle.net_queries.specs.Held.{shapes_from}
use Rattle.net_queries.specs.Joining.{JoinedBy, joins_of}
use Rattle.net_queries.proofs.joining.join_parts.Given as goal

abbrev pub invariant-loop-part : goal.invariant-loop-part
invariant-loop-part g l = record {
  whole : sum_by shape_count (drop l.part l.net.parts.now) ≡ length l.left;
  size : length l.joining.classes ≡ length l.fn.joining.classes;
  rest : (last : List ℕ) → JoinedBy l.joining.classes (flat_map (joins_of l.first (length l.fn.joining.classes) (g.S.ShapeSet.shapes l.shapes).entries) (shapes_from l.part (parts_of (drop l.part l.net.parts.now) l.left))) last
      → JoinedBy l.fn.joining.classes (flat_map (joins_of l.first (length l.fn.joining.classes) (g.S.ShapeSet.shapes l.shapes).entries) (shapes_from 0 (parts_of l.net.parts.now l.net.shapes.now))) last;
  tests : l.joining.tests + sum_by (λ s. g.S.ShapeSet.most l.shapes s.layer s.rect) l.left ≤ l.fn.joining.tests + sum_by (λ s. g.S.ShapeSet.most l.shapes s.layer s.rect) l.net.shapes.now;
  least : min (l.fn.joining.tests + sum_by (λ s. met_count s.layer s.rect (g.S.ShapeSet.shapes l.shapes).entries) l.net.shapes.now) (2 ^ 64 - 1) ≤ l.joining.tests + sum_by (λ s. met_count s.layer s.rect (g.S.ShapeSet.shapes l.shapes).entries) l.left;
}
