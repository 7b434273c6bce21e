use Rattle.std.proofs.Common.{ℕ, List, ◌++◌, map, take}
use Rattle.net_touches.specs.Layers.{IsNext}
use Rattle.net_touches.proofs.layers.with_barriers.Given as goal

abbrev pub invariant-loop-barrier : goal.invariant-loop-barrier
invariant-loop-barrier l = (layers : List ℕ) → IsNext l.after layers l.initial.next → IsNext l.after (layers ++ map (λ b. b.layer.0) (take l.barrier-index l.barriers)) l.next
