use Rattle.std.proofs.Common.{◌≡◌, ◌++◌, drop, map}
use Rattle.design_rules.specs.Surroundings.{assignments}
use Rattle.place_checks.specs.PlaceViews.{assignment_view}
use Rattle.def_reader.specs.StatementViews.{records_view}
use Rattle.place_checks.proofs.groups.assignments_of.Given as goal

abbrev pub invariant-loop-statement : goal.invariant-loop-statement
invariant-loop-statement g l = map assignment_view l.assignments.items ++ assignments (records_view (drop l.statement-index l.records)) ≡ assignments (records_view l.records)
