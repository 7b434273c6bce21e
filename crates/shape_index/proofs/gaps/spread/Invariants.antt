use Rattle.std.proofs.Common.{◌≤◌, ◌-◌, length, vec_capacity}
use Rattle.shape_index.proofs.Gapped.{IsSpread}
use Rattle.shape_index.proofs.gaps.spread.Given as goal

abbrev pub invariant-loop-slot : goal.invariant-loop-slot
invariant-loop-slot g l = record {
  spread : IsSpread l.order l.slot l.spread.items;
  room : l.slots ≤ vec_capacity l.spread;
}

abbrev pub decreases-loop-slot : goal.decreases-loop-slot
decreases-loop-slot g l = length l.order - l.slot
