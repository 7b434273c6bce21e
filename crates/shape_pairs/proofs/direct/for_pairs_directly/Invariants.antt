use Rattle.std.proofs.Common.{length}
use Rattle.shape_pairs.specs.Pairs.{CallsLead, meeting_pairs}
use Rattle.shape_pairs.proofs.direct.for_pairs_directly.Given as goal

abbrev pub invariant-loop-first : goal.invariant-loop-first
invariant-loop-first g l = record {
  callable : goal.F-IsAlwaysCallable g l.f;
  rest : (last : _) → CallsLead (goal.F-post g l.f) l.acc (meeting_pairs l.rest) last → CallsLead (goal.F-post g l.f) l.fn.acc (meeting_pairs l.items) last;
}

abbrev pub decreases-loop-first : goal.decreases-loop-first
decreases-loop-first g l = length l.rest
