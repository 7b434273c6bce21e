use Rattle.std.proofs.Common.{◌≡◌, ◌++◌, drop, flat_map, map}
use Rattle.def_reader.specs.StatementViews.{record_view}
use Rattle.report_rules.specs.Diagnostics.{statement_lines}
use Rattle.followed_statements.proofs.lines.put_statements.Given as goal

abbrev pub invariant-loop-statement : goal.invariant-loop-statement
invariant-loop-statement g l = record {
  put :
      l.lines ++ flat_map (statement_lines l.fn.checks.library l.fn.checks.design) (map record_view (drop l.statement-index l.statements))
      ≡ l.fn.lines ++ flat_map (statement_lines l.fn.checks.library l.fn.checks.design) (map record_view l.statements);
  same : l.checks ≡ l.fn.checks;
}
