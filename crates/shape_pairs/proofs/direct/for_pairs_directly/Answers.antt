use Rattle.std.proofs.Common.{rules}
use Rattle.shape_pairs.specs.Pairs.{is_meeting}
use Rattle.shape_pairs.proofs.DirectLemmas.{next_list}
use Rattle.shape_pairs.proofs.direct.for_pairs_directly.Goals as goal

pub loop-first-preserved : goal.loop-first-preserved
loop-first-preserved g c = record {
  callable = c.loop-first.invariant.callable;
  rest = λ last k. c.loop-first.invariant.rest last (next_list is_meeting _ _ _ last c.loop-first.rest.now c.in-Some.first.now c.in-Some.later.now (search rules) c.for_pairs_with-acc.ensures k);
}
