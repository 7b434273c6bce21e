use Rattle.std.proofs.Common.{◌≡◌, ◌++◌, ◌-◌, drop, flat_map, length}
use Rattle.cell_library.specs.MacroViews.{macros_view}
use Rattle.entry_checks.specs.UncheckedViews.{unchecked_of_macro}
use Rattle.entry_checks.proofs.unchecked.put_macros.Given as goal

abbrev pub invariant-loop-name : goal.invariant-loop-name
invariant-loop-name g l =
    l.lines ++ flat_map unchecked_of_macro (drop l.place (macros_view l.macros))
    ≡ l.initial.lines ++ flat_map unchecked_of_macro (macros_view l.macros)

abbrev pub decreases-loop-name : goal.decreases-loop-name
decreases-loop-name g l = length l.macros - l.place
