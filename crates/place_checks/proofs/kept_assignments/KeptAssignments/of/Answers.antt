use Rattle.std.proofs.Common.{◌≡◌, ◌∙◌, ap, sym, subst, map}
use Rattle.std.specs.Cmp.Lexicographic.{slice_cmp}
use Rattle.std.specs.Ordering.{nat_cmp}
use Rattle.place_kernels.proofs.Steps.{any_map}
use Rattle.place_checks.specs.KeptOrders.{AreInOrder, pattern_in}
use Rattle.place_checks.specs.KeptViews.{kept_assigned_view}
use Rattle.place_checks.specs.Patterns.{assigned_view, has_star}
use Rattle.place_checks.proofs.KeptLemmas.{seen_in_order}
use Rattle.place_checks.proofs.kept_assignments.KeptAssignments.of.Goals as goal

pub invariant_of-result : goal.invariant_of-result
invariant_of-result g c =
    let table = c.args.table.now in
    let same : map kept_assigned_view c.in-Ok.value.items ≡ map assigned_view table.named.items = c.in-Ok.ensures ∙ ap (map assigned_view) c.deref.ensures.value in
    let there : AreInOrder (map assigned_view table.named.items) = record {
      sorted = seen_in_order assigned_view pattern_in (slice_cmp nat_cmp) table.named.items table.sorted;
      starless = sym (any_map (λ a. has_star (pattern_in a)) assigned_view table.named.items) ∙ table.starless;
    } in
    subst AreInOrder (sym same) there
