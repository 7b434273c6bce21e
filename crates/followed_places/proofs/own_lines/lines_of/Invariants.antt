use Rattle.std.proofs.Common.{◌≤◌, ◌+◌, ◌-◌, ◌^◌, List, [], ◌++◌, drop, map, min}
use Rattle.design_model.specs.declared.identifier.StmtId.{StmtId}
use Rattle.following_laws.specs.DesignLaws.{lines_of_components}
use Rattle.line_laws.specs.Lines.{SameLines}
use Rattle.place_checks.specs.IndexViews.{surroundings_view}
use Rattle.followed_places.specs.Lines.{AreBoxesOf, boxed_under}
use Rattle.followed_places.specs.Placed.{component_of, placed_view}
use Rattle.followed_places.specs.Places.{place_under}
use Rattle.followed_places.specs.Tests.{met_sum, near_sum}
use Rattle.followed_places.proofs.own_lines.lines_of.Given as goal

abbrev pub invariant-loop-place : goal.invariant-loop-place
invariant-loop-place g l = record {
  lines : (ids : List StmtId) → AreBoxesOf l.library l.around.scale l.text.pieces.table.slots ids l.boxes
      → SameLines (l.lines ++ lines_of_components (surroundings_view l.around.surroundings) (map component_of (drop l.place l.components)) (boxed_under l.library l.around.scale l.text.pieces.table.slots ids) (map (λ b. b.1) l.keep_outs) [])
      (lines_of_components (surroundings_view l.around.surroundings) (map component_of l.components) (boxed_under l.library l.around.scale l.text.pieces.table.slots ids) (map (λ b. b.1) l.keep_outs) []);
  tests : l.tests + near_sum (l.boxes ++ l.keep_outs) (map place_under (map placed_view (drop l.place l.components))) ≤ near_sum (l.boxes ++ l.keep_outs) (map place_under (map placed_view l.components));
  least : min (met_sum (l.boxes ++ l.keep_outs) (map place_under (map placed_view l.components))) (2 ^ 64 - 1) ≤ l.tests + met_sum (l.boxes ++ l.keep_outs) (map place_under (map placed_view (drop l.place l.components)));
}
