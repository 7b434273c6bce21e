use Rattle.std.proofs.Common.{◌≡◌, drop}
use Rattle.std.specs.Option.{option_map}
use Rattle.std.specs.List.{list_any}
use Rattle.def_reader.specs.StatementViews.{records_view}
use Rattle.measuring_laws.specs.Measuring.{is_of_cells}
use Rattle.followed_measures.proofs.cells.is_any_of_cells.Given as goal

abbrev pub invariant-loop-statement : goal.invariant-loop-statement
invariant-loop-statement l = list_any (is_of_cells (option_map (λ w. w.now) l.but)) (records_view (drop l.statement-index l.statements)) ≡ list_any (is_of_cells (option_map (λ w. w.now) l.but)) (records_view l.statements)
