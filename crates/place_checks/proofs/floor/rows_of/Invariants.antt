use Rattle.std.proofs.Common.{◌≡◌, ◌++◌, drop, map}
use Rattle.std.specs.List.{filter_map}
use Rattle.design_rules.specs.Surroundings.{placed_row, row_of}
use Rattle.place_checks.specs.PlaceViews.{placed_row_view}
use Rattle.def_reader.specs.StatementViews.{records_view}
use Rattle.place_checks.proofs.floor.rows_of.Given as goal

abbrev pub invariant-loop-statement : goal.invariant-loop-statement
invariant-loop-statement g l =
    map placed_row_view l.rows.items ++ map (placed_row l.library l.scale) (filter_map row_of (records_view (drop l.statement-index l.records)))
    ≡ map (placed_row l.library l.scale) (filter_map row_of (records_view l.records))
