use Rattle.std.proofs.Common.{rules}
use Rattle.std.proofs.lemmas.List.{length-take-le, take-append-drop}
use Rattle.std.proofs.lemmas.List.Sorted.{IsPartitionPoint-from_clause}
use Rattle.std.specs.Int.Signed.{le_z}
use Rattle.place_checks.proofs.SweepLemmas.{parted, passing, left_over, follows_up_to}
use Rattle.place_checks.proofs.sweep.begin_up_to.Goals as goal

pub returns-clause-those : goal.returns-clause-those
returns-clause-those c =
    let p = follows_up_to c.args.rect.now.y1 in
    passing _ _ _ (IsPartitionPoint-from_clause (λ b. le_z b.rect.y1 c.args.rect.now.y1) _ _ c.partition_point.ensures.partitioned (parted _ p _ c.requires) (λ a r f' k. search rules))

pub returns-clause-others : goal.returns-clause-others
returns-clause-others c =
    let p = follows_up_to c.args.rect.now.y1 in
    rw (length-take-le _ _ c.partition_point.ensures.bound)
    (left_over _ _ _ (IsPartitionPoint-from_clause (λ b. le_z b.rect.y1 c.args.rect.now.y1) _ _ c.partition_point.ensures.partitioned (parted _ p _ c.requires) (λ a r f' k. search rules)))

pub returns-clause-all : goal.returns-clause-all
returns-clause-all c = rw (length-take-le _ _ c.partition_point.ensures.bound) (take-append-drop _ _)
