use Rattle.std.proofs.Common.{◌≤◌, ◌+◌, ◌-◌, ◌^◌, ◌++◌, drop, map, min, sum_by}
use Rattle.lef_grammar.specs.Measures.{Shape}
use Rattle.line_laws.specs.Lines.{SameThings}
use Rattle.net_lists.specs.PartCuts.{shape_view}
use Rattle.shape_index.specs.Near.{met_shapes}
use Rattle.kept_nets.proofs.Touching.{touching}
use Rattle.kept_nets.proofs.looks.touched_within.Given as goal

abbrev pub invariant-loop-shape : goal.invariant-loop-shape
invariant-loop-shape g l = record {
  places : SameThings (l.places.items ++ touching l.shapes (drop l.shape-index l.own)) (touching l.shapes l.own);
  least :
      let met = λ (s : Shape). met_shapes s (map (λ p. p.1) l.shapes) in
      min (l.fn.looks.tests + sum_by met (map shape_view l.own)) (2 ^ 64 - 1) ≤ l.looks.tests + sum_by met (map shape_view (drop l.shape-index l.own));
  more : l.fn.looks.tests ≤ l.looks.tests;
}
