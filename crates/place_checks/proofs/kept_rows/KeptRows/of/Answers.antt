use Rattle.std.proofs.Common.{◌≡◌, ◌∙◌, ap, sym, subst, map, IsSortedByKey}
use Rattle.std.specs.Ordering.{int_cmp}
use Rattle.place_checks.specs.KeptOrders.{edge_in}
use Rattle.place_checks.specs.KeptViews.{kept_row_view}
use Rattle.place_checks.specs.PlaceViews.{placed_row_view}
use Rattle.place_checks.proofs.KeptLemmas.{seen_in_order}
use Rattle.place_checks.proofs.kept_rows.KeptRows.of.Goals as goal

pub invariant_of-result : goal.invariant_of-result
invariant_of-result g c =
    let index = c.args.index.now in
    let same : map kept_row_view c.in-Ok.value.items ≡ map placed_row_view index.rows.items = c.in-Ok.ensures ∙ ap (map placed_row_view) c.deref.ensures.value in
    subst (IsSortedByKey edge_in int_cmp) (sym same) (seen_in_order placed_row_view edge_in int_cmp index.rows.items index.sorted)
