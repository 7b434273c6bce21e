use Rattle.std.proofs.Common.{drop}
use Rattle.def_reader.specs.StatementViews.{records_view}
use Rattle.design_names.specs.NameViews.{lent_entry}
use Rattle.design_names.proofs.ApartLemmas.{Passing}
use Rattle.design_names.proofs.names.names_of.Given as goal

abbrev pub invariant-loop-statement : goal.invariant-loop-statement
invariant-loop-statement g l = Passing lent_entry l.table.entries l.are_apart (records_view (drop l.statement-index l.records)) (records_view l.records)
