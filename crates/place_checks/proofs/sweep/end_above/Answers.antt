use Rattle.std.proofs.Common.{rules, ◌+ℤ◌, pos}
use Rattle.std.specs.Int.Signed.{le_z}
use Rattle.std.proofs.lemmas.List.{take_rest}
use Rattle.std.proofs.lemmas.List.Sorted.{IsPartitionPoint-from_clause}
use Rattle.std.specs.Prelude.{int_lt}
use Rattle.place_checks.proofs.SweepLemmas.{parted, others, above_is_not_up_to}
use Rattle.place_checks.proofs.HeightLemmas.{follows_under}
use Rattle.place_checks.proofs.sweep.end_above.Goals as goal

pub returns : goal.returns
returns c =
    let h = c.args.height in
    let y = c.args.rect.now.y1 in
    let p = follows_under h y in
    rw take_rest
    (others _ (λ b. int_lt y (b.rect.y1 +ℤ pos h)) (λ b. above_is_not_up_to (b.rect.y1 +ℤ pos h) y) _ _
    (IsPartitionPoint-from_clause (λ b. le_z (b.rect.y1 +ℤ pos h) y) _ _ c.partition_point.ensures.partitioned (parted _ p _ c.requires) (λ a r f' k. search rules)))
