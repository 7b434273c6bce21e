use Rattle.std.proofs.Common.{w64, rules}
use Rattle.std.specs.Int.RustNames.{FitsSigned}
use Rattle.std.proofs.lemmas.Int.{to_z-of_z}
use Rattle.place_checks.specs.IndexViews.{surroundings_view}
use Rattle.place_checks.specs.Views.{boxed_view}
use Rattle.place_checks.proofs.FitLemmas.{near_lines}
use Rattle.place_checks.proofs.SurroundingLemmas.{one_component}
use Rattle.place_checks.proofs.place_lines.all_lines_in.Goals as goal

pub loop-component-preserved : goal.loop-component-preserved
loop-component-preserved g c =
    let component = c.component-item.result in
    let fits : FitsSigned w64 c.component-item.result.rect.y1 = search rules in
    let here = simp to_z-of_z at c.at_next_edge-beside.ensures in
    let lines = near_lines (boxed_view component) c.args.surroundings.now.rows.rows.items _ _ here c.at_edge-elsewhere.ensures in
    record {
      beside = c.at_next_edge-beside.ensures;
      so_far =
          one_component (surroundings_view c.args.surroundings.now) c.args.boxes.now c.loop-component.component-index component _ _ _ _ _ c.loop-component-test.true c.component-item.is lines
          c.in-Ok.ensures c.in-Ok-put_at_borders.ensures c.loop-component.invariant.so_far;
    }
