use Rattle.std.proofs.Common.{map}
use Rattle.design_tables.specs.ListingViews.{named_view}
use Rattle.design_tables.specs.Prepared.{exchanged}
use Rattle.design_tables.proofs.ExchangeLemmas.{Going}
use Rattle.design_tables.proofs.names.NameTable.exchange.Given as goal

abbrev pub invariant-loop-i : goal.invariant-loop-i
invariant-loop-i g l =
    Going (exchanged (map named_view l.initial.change-inside.names.entries) (map named_view l.initial.self-inside.names.entries)) l.i l.change-inside.names.entries l.self-inside.names.entries l.i-end
