use Rattle.std.proofs.Common.{◌+◌}
use Rattle.std.proofs.lemmas.List.{take_rest}
use Rattle.place_checks.proofs.SkipLemmas.{one_box}
use Rattle.place_checks.proofs.SweepLemmas.{drop_from_left}
use Rattle.place_checks.proofs.overlap.put_row.Goals as goal

pub put_beside-requires : goal.put_beside-requires
put_beside-requires g c = rw take_rest (drop_from_left (c.loop-i.i + 1) c.args.row.now c.requires.row)

pub loop-i-preserved : goal.loop-i-preserved
loop-i-preserved g c =
    let beside = rw take_rest at c.in-Ok.ensures in
    one_box c.args.row.now c.args.above.now c.loop-i.i c.index-row-i.result _ _ _ _ c.loop-i-test.true c.index-row-i.is beside c.in-Ok-put_above.ensures c.loop-i.invariant
