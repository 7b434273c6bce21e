use Rattle.std.proofs.Common.{◌≡◌, ◌++◌, drop, map}
use Rattle.place_checks.specs.Patterns.{assigned_view, by_patterns, starred_view, with_star, without_star}
use Rattle.place_checks.specs.PlaceViews.{assignment_view}
use Rattle.place_checks.proofs.assignment_table.AssignmentTable.new.Given as goal

abbrev pub invariant-loop-assignment : goal.invariant-loop-assignment
invariant-loop-assignment g l =
    let left = by_patterns (map assignment_view (drop l.assignment-index l.assignments)) in
    let all = by_patterns (map assignment_view l.assignments) in
    record {
      named : map assigned_view l.named.items ++ without_star left ≡ without_star all;
      starred : map starred_view l.starred.items ++ with_star left ≡ with_star all;
    }
