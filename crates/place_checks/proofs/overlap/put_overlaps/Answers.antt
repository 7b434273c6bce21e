use Rattle.std.proofs.Common.{ap, ◌++◌, List, ℕ}
use Rattle.place_checks.proofs.SkipLemmas.{lines_below, one_compared, sorted_from, fewer_left}
use Rattle.place_checks.proofs.overlap.put_overlaps.Goals as goal

pub loop-next-init : goal.loop-next-init
loop-next-init g c = record {
  sorted = c.begin_below-left.ensures.sorted;
  so_far = ap (λ (ls : List (List ℕ)). c.args.lines.now ++ ls) (lines_below c.args.first.now c.args.others.now _ c.begin_below-left.ensures.those);
}

pub left_behind-left-requires : goal.left_behind-left-requires
left_behind-left-requires g c = sorted_from c.in-Some.next.now _ _ c.in-Some.ensures.cases.0 c.loop-next.invariant.sorted

pub loop-next-smaller : goal.loop-next-smaller
loop-next-smaller g c = fewer_left c.args.first.now c.in-Some.next.now _ _ _ c.in-Some.ensures.cases.0 c.left_behind-left.ensures.those

pub loop-next-preserved : goal.loop-next-preserved
loop-next-preserved g c = record {
  sorted = c.left_behind-left.ensures.sorted;
  so_far =
      one_compared c.args.first.now c.in-Some.next.now _ _ _ c.args.others.now _ _ _ c.loop-next.invariant.sorted c.in-Some.ensures.cases.0 c.left_behind-left.ensures.those
      c.in-Ok.ensures c.loop-next.invariant.so_far;
}
