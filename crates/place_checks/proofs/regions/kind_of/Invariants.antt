use Rattle.std.proofs.Common.{◌≡◌}
use Rattle.form_meanings.specs.Firsts.{first_of}
use Rattle.place_parts.specs.RegionViews.{region_clauses_of}
use Rattle.design_rules.specs.Surroundings.{type_of}
use Rattle.place_checks.proofs.regions.kind_of.Given as goal

abbrev pub invariant-loop-clause : goal.invariant-loop-clause
invariant-loop-clause l = first_of type_of (region_clauses_of l.left) ≡ first_of type_of (region_clauses_of l.fn.clauses)

abbrev pub decreases-loop-clause : goal.decreases-loop-clause
decreases-loop-clause l = l.left.most
