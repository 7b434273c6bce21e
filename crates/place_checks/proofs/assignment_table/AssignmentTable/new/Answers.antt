use Rattle.std.proofs.Common.{◌≡◌, List, ℕ, map, rules, ◌∙◌, sym}
use Rattle.std.proofs.lemmas.List.{append-nil, drop_all}
use Rattle.std.proofs.lemmas.Cmp.{nat_list_cmp_total}
use Rattle.std.proofs.lemmas.List.Sorted.{answers_always, list_any-IsPermutation, ranks_by}
use Rattle.place_checks.specs.Patterns.{assigned_view, by_patterns, is_starred, starred_view, with_star, without_star}
use Rattle.place_checks.specs.PlaceViews.{assignment_view}
use Rattle.place_checks.specs.declared.assigned.Assigned.{Assigned}
use Rattle.place_checks.proofs.PatternLemmas.{parted, parted_without_star}
use Rattle.place_checks.proofs.assignment_table.AssignmentTable.new.Goals as goal

pub invariant_of-result : goal.invariant_of-result
invariant_of-result g c =
    let pattern : Assigned → List ℕ = λ a. a.pattern.now in
    let all = by_patterns (map assignment_view c.args.assignments.now) in
    let end = drop_all _ _ c.loop-assignment-test.false in
    let named : map assigned_view c.loop-assignment.named.items ≡ without_star all = sym (append-nil (map assigned_view c.loop-assignment.named.items)) ∙ rw end at c.loop-assignment.invariant.named in
    record {
      sorted = c.sort_unstable_by.ensures.sorted _ (ranks_by nat_list_cmp_total pattern) (answers_always _ _ _ (λ f a r f' k. search rules));
      starless = sym (list_any-IsPermutation is_starred _ _ c.sort_unstable_by.ensures.permutation) ∙ parted_without_star all c.loop-assignment.named.items named;
    }

pub returns : goal.returns
returns g c =
    let all = by_patterns (map assignment_view c.args.assignments.now) in
    let end = drop_all _ _ c.loop-assignment-test.false in
    let named : map assigned_view c.loop-assignment.named.items ≡ without_star all = sym (append-nil (map assigned_view c.loop-assignment.named.items)) ∙ rw end at c.loop-assignment.invariant.named in
    let starred : map starred_view c.loop-assignment.starred.items ≡ with_star all = sym (append-nil (map starred_view c.loop-assignment.starred.items)) ∙ rw end at c.loop-assignment.invariant.starred in
    parted all c.loop-assignment.named.items _ (map starred_view c.loop-assignment.starred.items) named starred c.sort_unstable_by.ensures.permutation
