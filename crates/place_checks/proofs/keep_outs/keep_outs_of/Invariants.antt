use Rattle.std.proofs.Common.{◌≡◌, ◌++◌, drop, map}
use Rattle.design_model.specs.Views.{rectangle_of}
use Rattle.design_rules.specs.Surroundings.{keep_outs}
use Rattle.def_reader.specs.StatementViews.{records_view}
use Rattle.place_checks.proofs.keep_outs.keep_outs_of.Given as goal

abbrev pub invariant-loop-statement : goal.invariant-loop-statement
invariant-loop-statement g l = map rectangle_of l.found.items ++ keep_outs (records_view (drop l.statement-index l.records)) ≡ keep_outs (records_view l.records)
