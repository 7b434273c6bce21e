use Rattle.std.proofs.Common.{◌≡◌, drop, map}
use Rattle.std.specs.List.{list_any}
use Rattle.design_tables.specs.Prepared.{is_repeated}
use Rattle.design_tables.specs.TableViews.{numbered_view}
use Rattle.design_tables.proofs.names.NameTable.has_repeated.Given as goal

abbrev pub invariant-loop-statement : goal.invariant-loop-statement
invariant-loop-statement g l = list_any (is_repeated l.self) (map numbered_view (drop l.statement-index l.statements)) ≡ list_any (is_repeated l.self) (map numbered_view l.statements)
