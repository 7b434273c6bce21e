use Rattle.std.proofs.Common.{◌≡◌, ◌++◌, drop, flat_map}
use Rattle.def_reader.specs.StatementViews.{records_view}
use Rattle.design_grid.specs.Along.{lines_along}
use Rattle.design_grid.proofs.grid.lines_along.Given as goal

abbrev pub invariant-loop-statement : goal.invariant-loop-statement
invariant-loop-statement g l = l.lines.items ++ flat_map (lines_along l.along_x) (records_view (drop l.statement-index l.records)) ≡ flat_map (lines_along l.along_x) (records_view l.records)
