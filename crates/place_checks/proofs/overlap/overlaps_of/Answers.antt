use Rattle.std.proofs.lemmas.List.{take_rest}
use Rattle.std.specs.Prelude.{int_lt}
use Rattle.place_checks.proofs.SkipLemmas.{fewer_above, one_row}
use Rattle.place_checks.proofs.SweepLemmas.{row_from_left, sorted_as}
use Rattle.place_checks.proofs.overlap.overlaps_of.Goals as goal

pub put_row-requires-clause-row : goal.put_row-requires-clause-row
put_row-requires-clause-row g c = row_from_left c.in-Some.first.now _ _ _ c.loop-first.invariant.sorted c.in-Some.ensures.cases.0 c.begin_up_to-row.ensures.those

pub put_row-requires-clause-above : goal.put_row-requires-clause-above
put_row-requires-clause-above g c = rw take_rest (sorted_as (λ b. int_lt c.in-Some.first.now.rect.y1 b.rect.y1) _ _ c.loop-first.invariant.sorted c.begin_up_to-row.ensures.others)

pub loop-first-smaller : goal.loop-first-smaller
loop-first-smaller g c = rw take_rest (fewer_above c.in-Some.first.now _ _ _ c.in-Some.ensures.cases.0 c.begin_up_to-row.ensures.others)

pub loop-first-preserved : goal.loop-first-preserved
loop-first-preserved g c =
    let added = rw take_rest at c.in-Ok.ensures in
    rw take_rest (record {
      sorted = sorted_as (λ b. int_lt c.in-Some.first.now.rect.y1 b.rect.y1) _ _ c.loop-first.invariant.sorted c.begin_up_to-row.ensures.others;
      so_far = one_row c.loop-first.left.now c.begin_up_to-row.result.now _ _ _ _ c.begin_up_to-row.ensures.all added c.loop-first.invariant.so_far;
    })
