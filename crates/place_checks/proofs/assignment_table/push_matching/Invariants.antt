use Rattle.std.proofs.Common.{◌≡◌, ◌++◌, drop, map}
use Rattle.lefdef_tokens.specs.Views.{word_view}
use Rattle.place_checks.specs.Patterns.{regions_for, starred_view}
use Rattle.place_checks.proofs.assignment_table.push_matching.Given as goal

abbrev pub invariant-loop-starred : goal.invariant-loop-starred
invariant-loop-starred g l =
    map word_view l.regions.items ++ regions_for l.name (map starred_view (drop l.starred-index l.all)) ≡ map word_view l.fn.regions.items ++ regions_for l.name (map starred_view l.all)
