use Rattle.std.proofs.Common.{◌≡◌, ◌∙◌, ap, sym, subst, map}
use Rattle.std.specs.Cmp.Lexicographic.{slice_cmp}
use Rattle.std.specs.Ordering.{nat_cmp}
use Rattle.place_kernels.proofs.Steps.{any_map}
use Rattle.place_checks.specs.KeptOrders.{AreInOrder, pattern_in}
use Rattle.place_checks.specs.KeptViews.{kept_assigned_view}
use Rattle.place_checks.specs.Patterns.{assigned_view, has_star}
use Rattle.place_checks.proofs.KeptLemmas.{in_order_as_seen}
use Rattle.place_checks.proofs.kept_assignments.KeptAssignments.lent.Goals as goal

pub in_order-requires-clause-sorted : goal.in_order-requires-clause-sorted
in_order-requires-clause-sorted g c =
    let same : map assigned_view c.in-Ok.value.items ≡ map kept_assigned_view c.self.inside.named.items = c.in-Ok.ensures ∙ ap (map kept_assigned_view) c.deref.ensures.value in
    in_order_as_seen assigned_view pattern_in (slice_cmp nat_cmp) c.in-Ok.value.items (subst AreInOrder (sym same) c.self.invariant).sorted

pub in_order-requires-clause-starless : goal.in_order-requires-clause-starless
in_order-requires-clause-starless g c =
    let same : map assigned_view c.in-Ok.value.items ≡ map kept_assigned_view c.self.inside.named.items = c.in-Ok.ensures ∙ ap (map kept_assigned_view) c.deref.ensures.value in
    any_map (λ a. has_star (pattern_in a)) assigned_view c.in-Ok.value.items ∙ (subst AreInOrder (sym same) c.self.invariant).starless
