use Rattle.std.proofs.Common.{◌++◌, ◌≤◌, ◌+◌, ◌-◌, ◌^◌, drop, map, min, sum_by}
use Rattle.lef_grammar.specs.Measures.{Shape}
use Rattle.connection_rules.specs.NetLines.{short_of}
use Rattle.line_laws.specs.Lines.{SameLines}
use Rattle.net_lists.specs.PartCuts.{shape_view}
use Rattle.net_touches.specs.Barriers.{name_at}
use Rattle.shape_index.specs.Near.{met_shapes, near_shapes}
use Rattle.named_shapes.proofs.ShortSteps.{crossing}
use Rattle.named_shapes.proofs.shapes.NamedShapes.put_shorts.Given as goal

abbrev pub invariant-loop-shape : goal.invariant-loop-shape
invariant-loop-shape g l = record {
  lines :
      let compare = short_of (name_at (map (λ w. w.now) l.layers)) in
      SameLines (l.lines ++ crossing compare l.net l.self (drop l.shape-index l.shapes)) (l.fn.lines ++ crossing compare l.net l.self l.shapes);
  tests :
      let near = λ (s : Shape). near_shapes s (map (λ n. n.shape) l.self) in
      l.tests + sum_by near (map shape_view (drop l.shape-index l.shapes)) ≤ sum_by near (map shape_view l.shapes);
  least :
      let met = λ (s : Shape). met_shapes s (map (λ n. n.shape) l.self) in
      min (sum_by met (map shape_view l.shapes)) (2 ^ 64 - 1) ≤ l.tests + sum_by met (map shape_view (drop l.shape-index l.shapes));
}
