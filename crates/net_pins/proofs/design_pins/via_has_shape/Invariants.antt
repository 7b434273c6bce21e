use Rattle.std.proofs.Common.{◌≡◌, map, length}
use Rattle.def_grammar.specs.Points.{place_of}
use Rattle.def_parts.specs.PointViews.{point_view}
use Rattle.connection_rules.specs.PinShapes.{checked_named, moved_shape}
use Rattle.connection_rules.specs.Terminals.{is_some_shape}
use Rattle.design_wires.specs.KnownShapes.{known_left}
use Rattle.net_pins.proofs.design_pins.via_has_shape.Given as goal

abbrev pub invariant-loop-shape : goal.invariant-loop-shape
invariant-loop-shape g l = record {
  known : l.layers ≡ l.of.library.now;
  left :
      is_some_shape (checked_named l.of.library.now.layers (map (moved_shape (place_of (point_view l.via.at))) (known_left l.shapes)))
      ≡ is_some_shape (checked_named l.of.library.now.layers (map (moved_shape (place_of (point_view l.via.at))) (known_left l.initial.shapes)));
}

abbrev pub decreases-loop-shape : goal.decreases-loop-shape
decreases-loop-shape g l = length (known_left l.shapes)
