use Rattle.std.proofs.Common.{◌≡◌}
use Rattle.std.specs.Option.{option_map}
use Rattle.connection_rules.specs.PinShapes.{checked_named}
use Rattle.place_parts.specs.PinViews.{pin_clauses_of}
use Rattle.net_pins.specs.PortViews.{port_place_view, vias_in}
use Rattle.net_pins.specs.PortsLeft.{place_ahead, shapes_left}
use Rattle.net_pins.specs.Putting.{Puts}
use Rattle.net_pins.proofs.design_pins.put_ports.Given as goal

abbrev pub invariant-loop-clause : goal.invariant-loop-clause
invariant-loop-clause g l = record {
  known : l.layers ≡ l.of.library.now;
  puts :
      Puts (checked_named l.of.library.now.layers (shapes_left (vias_in l.of) (place_ahead (pin_clauses_of l.pin.clauses)) (pin_clauses_of l.pin.clauses))) l.initial.nets
      (checked_named l.of.library.now.layers (shapes_left (vias_in l.of) (option_map port_place_view l.place) (pin_clauses_of l.left))) l.nets;
}

abbrev pub decreases-loop-clause : goal.decreases-loop-clause
decreases-loop-clause g l = l.left.most
