use Rattle.std.proofs.Common.{◌≡◌, drop}
use Rattle.design_rules.specs.Surroundings.{die}
use Rattle.def_reader.specs.StatementViews.{records_view}
use Rattle.place_checks.proofs.floor.die_of.Given as goal

abbrev pub invariant-loop-statement : goal.invariant-loop-statement
invariant-loop-statement l = die (records_view (drop l.statement-index l.records)) ≡ die (records_view l.records)
