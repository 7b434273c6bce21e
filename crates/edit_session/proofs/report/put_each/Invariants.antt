use Rattle.std.proofs.Common.{◌≡◌, ◌++◌, drop, flat_map, map}
use Rattle.def_reader.specs.StatementViews.{record_view}
use Rattle.report_rules.specs.Diagnostics.{statement_lines}
use Rattle.edit_session.proofs.report.put_each.Given as goal

abbrev pub invariant-loop-statement : goal.invariant-loop-statement
invariant-loop-statement g l = record {
  put :
      l.lines ++ flat_map (statement_lines l.fn.library l.fn.names) (map record_view (drop l.statement-index l.records))
      ≡ l.fn.lines ++ flat_map (statement_lines l.fn.library l.fn.names) (map record_view l.records);
  library : l.checks.library ≡ l.fn.library;
  design : l.checks.design ≡ l.fn.names;
}
