use Rattle.std.proofs.Common.{sym, rules, w64, ◌∙◌}
use Rattle.std.specs.Int.RustNames.{FitsSigned}
use Rattle.std.proofs.lemmas.Int.{to_z-of_z}
use Rattle.std.proofs.lemmas.List.{append-nil}
use Rattle.place_checks.proofs.SkipLemmas.{none_right, one_beside}
use Rattle.place_checks.proofs.SweepLemmas.{up_to_of}
use Rattle.place_checks.proofs.overlap.put_beside.Goals as goal

pub returns-then-next-first : goal.returns-then-next-first
returns-then-next-first g c =
    let fits : FitsSigned w64 c.args.first.now.rect.x2 = search rules in
    let next_fits : FitsSigned w64 c.next-item.result.rect.x1 = search rules in
    let past = up_to_of _ _ (simp to_z-of_z at c.if-next-first.true) in
    let none = none_right c.args.first.now c.next-item.result c.args.row.now c.loop-next.next-index c.requires c.loop-next-test.true c.next-item.is past in
    sym (append-nil _) ∙ rw none at c.loop-next.invariant

pub loop-next-preserved : goal.loop-next-preserved
loop-next-preserved g c =
    one_beside c.args.first.now c.next-item.result c.args.row.now c.loop-next.next-index _ _ _ c.loop-next-test.true c.next-item.is c.in-Ok.ensures c.loop-next.invariant
