use Rattle.std.proofs.Common.{◌≡◌}
use Rattle.wire_shapes.specs.ItemViews.{IsPlace}
use Rattle.wire_reading.proofs.items.next_item.Given as goal

abbrev pub invariant-loop-item : goal.invariant-loop-item
invariant-loop-item g l = record {
  same : g.P.ItemParts.after l.at l.left ≡ g.P.ItemParts.after l.fn.at l.fn.left;
  place : IsPlace l.at;
}

abbrev pub decreases-loop-item : goal.decreases-loop-item
decreases-loop-item g l = g.P.ItemParts.most l.left
