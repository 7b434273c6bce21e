use Rattle.std.proofs.Common.{◌≡◌, ◌++◌, drop, flat_map, map}
use Rattle.std.specs.List.{filter}
use Rattle.std.specs.Ordering.{int_eq}
use Rattle.design_rules.specs.PlaceLines.{lines_in}
use Rattle.place_checks.specs.IndexViews.{surroundings_view}
use Rattle.place_checks.specs.RowEdges.{edge_of}
use Rattle.place_checks.specs.Views.{boxed_view}
use Rattle.place_checks.proofs.place_lines.all_lines_in.Given as goal

abbrev pub invariant-loop-component : goal.invariant-loop-component
invariant-loop-component g l = record {
  beside : l.beside ≡ filter (λ row. int_eq (edge_of row) l.edge) l.surroundings.rows.rows.items;
  so_far :
      l.lines ++ flat_map (lines_in (surroundings_view l.surroundings)) (map boxed_view (drop l.component-index l.boxes))
      ≡ l.initial.lines ++ flat_map (lines_in (surroundings_view l.surroundings)) (map boxed_view l.boxes);
}
