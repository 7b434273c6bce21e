use Rattle.std.proofs.Common.{◌≡◌, ◌+◌, ◌≤◌, drop}
use Rattle.design_rules.specs.CountLines.{entries}
use Rattle.def_reader.specs.StatementViews.{records_view}
use Rattle.place_checks.proofs.count.entries_before_end.Given as goal

abbrev pub invariant-loop-statement : goal.invariant-loop-statement
invariant-loop-statement l = record {
  few : l.count ≤ l.statement-index;
  so_far : l.count + entries (records_view (drop l.statement-index l.records)) ≡ entries (records_view l.records);
}
