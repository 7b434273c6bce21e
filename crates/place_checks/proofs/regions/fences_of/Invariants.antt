use Rattle.std.proofs.Common.{◌≡◌, ◌++◌, drop, map}
use Rattle.design_rules.specs.Surroundings.{fences}
use Rattle.place_checks.specs.PlaceViews.{fence_view}
use Rattle.def_reader.specs.StatementViews.{records_view}
use Rattle.place_checks.proofs.regions.fences_of.Given as goal

abbrev pub invariant-loop-statement : goal.invariant-loop-statement
invariant-loop-statement g l = map fence_view l.fences.items ++ fences (records_view (drop l.statement-index l.records)) ≡ fences (records_view l.records)
