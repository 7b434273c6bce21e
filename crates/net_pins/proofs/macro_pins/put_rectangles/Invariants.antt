use Rattle.std.proofs.Common.{drop, map}
use Rattle.cell_library.specs.Numbers.{rectangle_view}
use Rattle.net_pins.specs.MacroPins.{rectangles_placed}
use Rattle.net_pins.specs.Putting.{Puts}
use Rattle.net_pins.proofs.macro_pins.put_rectangles.Given as goal

abbrev pub invariant-loop-rectangle : goal.invariant-loop-rectangle
invariant-loop-rectangle g l =
    Puts (rectangles_placed l.place (map rectangle_view l.rectangles) l.layer.0) l.initial.nets (rectangles_placed l.place (map rectangle_view (drop l.rectangle-index l.rectangles)) l.layer.0) l.nets
