use Rattle.std.proofs.Common.{◌≡◌, drop}
use Rattle.design_rules.specs.Boxes.{scale}
use Rattle.def_reader.specs.StatementViews.{records_view}
use Rattle.design_wires.proofs.scale.per_micron_of.Given as goal

abbrev pub invariant-loop-statement : goal.invariant-loop-statement
invariant-loop-statement l = scale (records_view (drop l.statement-index l.records)) ≡ scale (records_view l.records)
