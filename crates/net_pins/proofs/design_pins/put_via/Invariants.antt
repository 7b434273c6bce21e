use Rattle.std.proofs.Common.{◌≡◌, map, length}
use Rattle.connection_rules.specs.PinShapes.{checked_named, moved_shape, turned_shape}
use Rattle.design_wires.specs.KnownShapes.{known_left}
use Rattle.net_pins.specs.PortViews.{port_place_view}
use Rattle.net_pins.specs.Putting.{Puts}
use Rattle.net_pins.proofs.design_pins.put_via.Given as goal

abbrev pub invariant-loop-shape : goal.invariant-loop-shape
invariant-loop-shape g l = record {
  known : l.layers ≡ l.of.library.now;
  puts :
      Puts (checked_named l.of.library.now.layers (map (turned_shape (port_place_view l.place)) (map (moved_shape l.at) (known_left l.initial.shapes)))) l.initial.nets
      (checked_named l.of.library.now.layers (map (turned_shape (port_place_view l.place)) (map (moved_shape l.at) (known_left l.shapes)))) l.nets;
}

abbrev pub decreases-loop-shape : goal.decreases-loop-shape
decreases-loop-shape g l = length (known_left l.shapes)
