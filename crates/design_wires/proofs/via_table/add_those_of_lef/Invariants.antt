use Rattle.std.proofs.Common.{◌-◌, drop, length}
use Rattle.cell_library.specs.ViaViews.{vias_view}
use Rattle.design_wires.specs.Defined.{defined}
use Rattle.design_wires.specs.KnownVias.{HasOthers, names_in_lef}
use Rattle.design_wires.proofs.via_table.add_those_of_lef.Given as goal

abbrev pub invariant-loop-name : goal.invariant-loop-name
invariant-loop-name g l =
    HasOthers (defined l.of) l.initial.vias (names_in_lef (vias_view l.all)) → HasOthers (defined l.of) l.vias (names_in_lef (drop l.place (vias_view l.all)))

abbrev pub decreases-loop-name : goal.decreases-loop-name
decreases-loop-name g l = length l.all - l.place
