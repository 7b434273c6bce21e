use Rattle.std.proofs.Common.{◌≡◌}
use Rattle.form_meanings.specs.Firsts.{first_of}
use Rattle.def_grammar.specs.Groups.{region_named}
use Rattle.place_parts.specs.GroupViews.{group_clauses_of}
use Rattle.entry_references.proofs.places.first_group_region.Given as goal

abbrev pub invariant-loop-clause : goal.invariant-loop-clause
invariant-loop-clause l = first_of region_named (group_clauses_of l.left) ≡ first_of region_named (group_clauses_of l.fn.clauses)

abbrev pub decreases-loop-clause : goal.decreases-loop-clause
decreases-loop-clause l = l.left.most
