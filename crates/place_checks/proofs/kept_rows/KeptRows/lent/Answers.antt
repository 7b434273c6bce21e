use Rattle.std.proofs.Common.{◌≡◌, ◌∙◌, ap, sym, subst, map, IsSortedByKey}
use Rattle.std.specs.Ordering.{int_cmp}
use Rattle.place_checks.specs.KeptOrders.{edge_in}
use Rattle.place_checks.specs.KeptViews.{kept_row_view}
use Rattle.place_checks.specs.PlaceViews.{placed_row_view}
use Rattle.place_checks.proofs.KeptLemmas.{in_order_as_seen}
use Rattle.place_checks.proofs.kept_rows.KeptRows.lent.Goals as goal

pub in_order-requires : goal.in_order-requires
in_order-requires g c =
    let same : map placed_row_view c.in-Ok.value.items ≡ map kept_row_view c.self.inside.rows.items = c.in-Ok.ensures ∙ ap (map kept_row_view) c.deref.ensures.value in
    in_order_as_seen placed_row_view edge_in int_cmp c.in-Ok.value.items (subst (IsSortedByKey edge_in int_cmp) (sym same) c.self.invariant)
