use Rattle.std.proofs.Common.{◌≡◌, drop, map}
use Rattle.place_checks.specs.PlaceViews.{placed_row_view}
use Rattle.place_checks.specs.RowFits.{best_fit, better}
use Rattle.place_checks.specs.Views.{boxed_view}
use Rattle.place_checks.proofs.rows.best_fit.Given as goal

abbrev pub invariant-loop-row : goal.invariant-loop-row
invariant-loop-row l = better l.best (best_fit (boxed_view l.component) (map placed_row_view (drop l.row-index l.rows))) ≡ best_fit (boxed_view l.component) (map placed_row_view l.rows)
