use Rattle.std.proofs.Common.{◌≡◌}
use Rattle.place_parts.specs.PinViews.{pin_clauses_of}
use Rattle.net_pins.specs.PortsLeft.{place_ahead}
use Rattle.net_pins.proofs.ports.place_ahead.Given as goal

abbrev pub invariant-loop-clause : goal.invariant-loop-clause
invariant-loop-clause l = place_ahead (pin_clauses_of l.left) ≡ place_ahead (pin_clauses_of l.fn.clauses)

abbrev pub decreases-loop-clause : goal.decreases-loop-clause
decreases-loop-clause l = l.left.most
