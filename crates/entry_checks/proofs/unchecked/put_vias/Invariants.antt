use Rattle.std.proofs.Common.{◌≡◌, ◌++◌, ◌-◌, drop, flat_map, length}
use Rattle.cell_library.specs.ViaViews.{vias_view}
use Rattle.entry_checks.specs.UncheckedViews.{unchecked_of_via}
use Rattle.entry_checks.proofs.unchecked.put_vias.Given as goal

abbrev pub invariant-loop-name : goal.invariant-loop-name
invariant-loop-name g l =
    l.lines ++ flat_map unchecked_of_via (drop l.place (vias_view l.vias))
    ≡ l.initial.lines ++ flat_map unchecked_of_via (vias_view l.vias)

abbrev pub decreases-loop-name : goal.decreases-loop-name
decreases-loop-name g l = length l.vias - l.place
