use Rattle.std.proofs.Common.{◌++◌, ◌≤◌, ◌+◌, ◌-◌, ◌^◌, drop, map, min, sum_by}
use Rattle.lef_grammar.specs.Measures.{Shape}
use Rattle.line_laws.specs.Lines.{SameThings}
use Rattle.net_lists.specs.PartCuts.{shape_view}
use Rattle.shape_index.specs.Near.{met_shapes, near_shapes}
use Rattle.placed_shapes.proofs.TouchedLists.{touching}
use Rattle.placed_shapes.proofs.placed.PlacedShapes.touched_places.Given as goal

abbrev pub invariant-loop-shape : goal.invariant-loop-shape
invariant-loop-shape g l = record {
  places : SameThings (l.places.items ++ touching l.self (drop l.shape-index l.shapes)) (touching l.self l.shapes);
  tests :
      let near = λ (s : Shape). near_shapes s (map (λ p. p.1) l.self) in
      l.tests + sum_by near (map shape_view (drop l.shape-index l.shapes)) ≤ sum_by near (map shape_view l.shapes);
  least :
      let met = λ (s : Shape). met_shapes s (map (λ p. p.1) l.self) in
      min (sum_by met (map shape_view l.shapes)) (2 ^ 64 - 1) ≤ l.tests + sum_by met (map shape_view (drop l.shape-index l.shapes));
}
