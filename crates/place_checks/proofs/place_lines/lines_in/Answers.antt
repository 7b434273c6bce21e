use Rattle.design_rules.specs.PlaceLines.{fence_lines, outside_lines, row_lines}
use Rattle.place_checks.specs.IndexViews.{surroundings_view}
use Rattle.place_checks.specs.Views.{boxed_view}
use Rattle.place_checks.proofs.SurroundingLemmas.{rows_and_borders}
use Rattle.place_checks.proofs.place_lines.lines_in.Goals as goal

pub returns : goal.returns
returns g c =
    let s = surroundings_view c.args.surroundings.now in
    let component = boxed_view c.args.component.now in
    let both = rows_and_borders c.args.lines.now _ (row_lines s.rows component) (outside_lines s.die component) (fence_lines s component) c.in-Ok.ensures in
    rw both at (c.put_at_borders.ensures)
