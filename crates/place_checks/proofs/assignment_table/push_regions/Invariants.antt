use Rattle.std.proofs.Common.{◌≡◌, ◌++◌, drop, map}
use Rattle.lefdef_tokens.specs.Views.{word_view}
use Rattle.place_checks.proofs.assignment_table.push_regions.Given as goal

abbrev pub invariant-loop-assigned : goal.invariant-loop-assigned
invariant-loop-assigned g l = map word_view l.regions.items ++ map (λ a. a.region.now) (drop l.assigned-index l.all) ≡ map word_view l.fn.regions.items ++ map (λ a. a.region.now) l.all
