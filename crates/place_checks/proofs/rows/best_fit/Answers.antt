use Rattle.std.proofs.Common.{◌∙◌}
use Rattle.place_checks.specs.Views.{boxed_view}
use Rattle.place_checks.proofs.FitLemmas.{row_more}
use Rattle.place_checks.proofs.rows.best_fit.Goals as goal

pub loop-row-preserved : goal.loop-row-preserved
loop-row-preserved c =
    let component = boxed_view c.args.component.now in
    let l = c.loop-row in
    rw (c.better-best.ensures, c.row_fit.ensures) (row_more component l.best c.row-item.result c.args.rows.now l.row-index c.loop-row-test.true c.row-item.is) ∙ l.invariant
