use Rattle.std.proofs.Common.{◌≡◌, flat_map}
use Rattle.connection_rules.specs.PinShapes.{checked_named, clause_shapes}
use Rattle.connection_rules.specs.Terminals.{is_some_shape}
use Rattle.place_parts.specs.PinViews.{pin_clauses_of}
use Rattle.net_pins.specs.PortViews.{vias_in}
use Rattle.net_pins.proofs.design_pins.counts.Given as goal

abbrev pub invariant-loop-clause : goal.invariant-loop-clause
invariant-loop-clause g l = record {
  known : l.layers ≡ l.of.library.now;
  left :
      is_some_shape (checked_named l.of.library.now.layers (flat_map (clause_shapes (vias_in l.of)) (pin_clauses_of l.left)))
      ≡ is_some_shape (checked_named l.of.library.now.layers (flat_map (clause_shapes (vias_in l.of)) (pin_clauses_of l.pin.clauses)));
}

abbrev pub decreases-loop-clause : goal.decreases-loop-clause
decreases-loop-clause g l = l.left.most
