use Rattle.std.proofs.Common.{◌≡◌, ◌+◌, ◌-◌, drop, length}
use Rattle.cell_library.specs.PinViews.{pins_view, unchecked_in}
use Rattle.cell_library.proofs.macro_definition.Macro.unchecked.Given as goal

abbrev pub invariant-loop-pin : goal.invariant-loop-pin
invariant-loop-pin g l = l.count + unchecked_in (drop l.place (pins_view l.self.pins)) ≡ unchecked_in (pins_view l.self.pins)

abbrev pub decreases-loop-pin : goal.decreases-loop-pin
decreases-loop-pin g l = length l.self.pins - l.place
