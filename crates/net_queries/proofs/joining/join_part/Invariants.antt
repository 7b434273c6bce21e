use Rattle.std.proofs.Common.{◌≤◌, ◌+◌, ◌-◌, ◌^◌, length, map, min, sum_by, take}
use Rattle.std.specs.List.{flat_map}
use Rattle.net_lists.specs.PartCuts.{shape_view}
use Rattle.shape_index.specs.Shapes.{met_count}
use Rattle.net_queries.specs.Joining.{JoinedBy, joins_of}
use Rattle.net_queries.proofs.joining.join_part.Given as goal

abbrev pub invariant-loop-shape : goal.invariant-loop-shape
invariant-loop-shape g l = record {
  joined : JoinedBy l.fn.joining.classes (flat_map (joins_of l.first (length l.fn.joining.classes) (g.S.ShapeSet.shapes l.shapes).entries) (map (λ s. (l.part, shape_view s)) (take l.shape-index l.own))) l.joining.classes;
  tests : l.joining.tests ≤ l.fn.joining.tests + sum_by (λ s. g.S.ShapeSet.most l.shapes s.layer s.rect) (take l.shape-index l.own);
  least : min (l.fn.joining.tests + sum_by (λ s. met_count s.layer s.rect (g.S.ShapeSet.shapes l.shapes).entries) (take l.shape-index l.own)) (2 ^ 64 - 1) ≤ l.joining.tests;
}
