use Rattle.std.proofs.Common.{◌≡◌, ◌∙◌, arith}
use Rattle.std.proofs.lemmas.Int.{ints}
use Rattle.std.proofs.lemmas.List.{take_rest}
use Rattle.std.specs.Int.{w32}
use mir.Val.{of_z, to_z}
use Rattle.place_checks.proofs.CountLemmas.{header_noted}
use Rattle.place_checks.proofs.count.counts_of.Goals as goal

pub loop-i-preserved : goal.loop-i-preserved
loop-i-preserved g c =
    let back : to_z w32 (of_z w32 c.int_of.result) ≡ c.int_of.result = omega (arith, ints) in
    let found = rw take_rest at c.entries_before_end-found.ensures.count in
    header_noted c.args.records.now c.loop-i.i c.entries_before_end-found.result _ c.index-records-i.result c.in-Header.section c.in-Header.number _ _ _
    c.loop-i-test.true c.index-records-i.is c.in-Header.is (back ∙ c.int_of.ensures) found c.in-Ok.ensures c.loop-i.invariant
