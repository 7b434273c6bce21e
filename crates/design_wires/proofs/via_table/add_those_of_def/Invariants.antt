use Rattle.std.proofs.Common.{◌++◌, ℕ, List, drop}
use Rattle.def_reader.specs.StatementViews.{records_view}
use Rattle.design_wires.specs.Defined.{defined}
use Rattle.design_wires.specs.KnownVias.{HasOthers, names_in_def}
use Rattle.design_wires.proofs.via_table.add_those_of_def.Given as goal

abbrev pub invariant-loop-statement : goal.invariant-loop-statement
invariant-loop-statement g l =
    (left : List (List ℕ)) → HasOthers (defined l.of) l.initial.vias (names_in_def (records_view l.records) ++ left)
    → HasOthers (defined l.of) l.vias (names_in_def (records_view (drop l.statement-index l.records)) ++ left)
