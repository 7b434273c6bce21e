use Rattle.std.proofs.Common.{◌<◌, ℕ, length}
use Rattle.std.specs.List.{All}
use Rattle.shape_pairs.specs.declared.pairs.Numbered.{Numbered}
use Rattle.shape_pairs.specs.Pairs.{CallsLead}
use Rattle.shape_pairs.proofs.RunLemmas.{with_places}
use Rattle.shape_pairs.proofs.runs.for_pairs_with_later.Given as goal

abbrev pub invariant-loop-place : goal.invariant-loop-place
invariant-loop-place g l = record {
  callable : goal.F-IsAlwaysCallable g l.f;
  placed : All (λ (place : ℕ). place < length l.items) l.rest;
  rest : (other : Numbered) (last : _) → CallsLead (goal.F-post g l.f) l.acc (with_places l.grid l.items other l.bin l.first l.rest) last
      → CallsLead (goal.F-post g l.f) l.fn.acc (with_places l.grid l.items other l.bin l.first l.later) last;
}

abbrev pub decreases-loop-place : goal.decreases-loop-place
decreases-loop-place g l = length l.rest
