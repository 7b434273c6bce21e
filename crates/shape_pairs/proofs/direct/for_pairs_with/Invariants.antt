use Rattle.std.proofs.Common.{length}
use Rattle.shape_pairs.specs.Pairs.{CallsLead, is_meeting}
use Rattle.shape_pairs.proofs.DirectLemmas.{pairs_with}
use Rattle.shape_pairs.proofs.direct.for_pairs_with.Given as goal

abbrev pub invariant-loop-other : goal.invariant-loop-other
invariant-loop-other g l = record {
  callable : goal.F-IsAlwaysCallable g l.f;
  rest : (last : _) → CallsLead (goal.F-post g l.f) l.acc (pairs_with is_meeting l.first l.rest) last → CallsLead (goal.F-post g l.f) l.fn.acc (pairs_with is_meeting l.first l.others) last;
}

abbrev pub decreases-loop-other : goal.decreases-loop-other
decreases-loop-other g l = length l.rest
