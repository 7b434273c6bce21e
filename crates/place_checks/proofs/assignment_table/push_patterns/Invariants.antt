use Rattle.std.proofs.Common.{◌≡◌, ◌++◌, map}
use Rattle.design_rules.specs.Surroundings.{Assignment}
use Rattle.place_parts.specs.GroupViews.{patterns_of}
use Rattle.place_checks.specs.Patterns.{assigned_view, by_pattern, starred_view, with_star, without_star}
use Rattle.place_checks.specs.PlaceViews.{assignment_view}
use Rattle.place_checks.proofs.assignment_table.push_patterns.Given as goal

abbrev pub invariant-loop-pattern : goal.invariant-loop-pattern
invariant-loop-pattern g l =
    let left : Assignment = record { region = l.assignment.region.now; patterns = patterns_of l.left } in
    let all = by_pattern (assignment_view l.assignment) in
    record {
      named : map assigned_view l.named.items ++ without_star (by_pattern left) ≡ map assigned_view l.fn.named.items ++ without_star all;
      starred : map starred_view l.starred.items ++ with_star (by_pattern left) ≡ map starred_view l.fn.starred.items ++ with_star all;
    }

abbrev pub decreases-loop-pattern : goal.decreases-loop-pattern
decreases-loop-pattern g l = l.left.most
