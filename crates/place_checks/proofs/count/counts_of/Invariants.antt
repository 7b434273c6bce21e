use Rattle.std.proofs.Common.{◌≡◌, ◌++◌, drop}
use Rattle.design_rules.specs.CountLines.{count_lines}
use Rattle.def_reader.specs.StatementViews.{records_view}
use Rattle.place_checks.proofs.count.counts_of.Given as goal

abbrev pub invariant-loop-i : goal.invariant-loop-i
invariant-loop-i g l = l.lines ++ count_lines (records_view (drop l.i l.records)) ≡ l.initial.lines ++ count_lines (records_view l.records)
