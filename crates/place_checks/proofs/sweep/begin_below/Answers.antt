use Rattle.std.proofs.Common.{rules}
use Rattle.std.proofs.lemmas.List.Sorted.{IsPartitionPoint-from_clause}
use Rattle.std.specs.Prelude.{int_lt}
use Rattle.place_checks.proofs.SweepLemmas.{parted, passing, sorted_as, follows_below}
use Rattle.place_checks.proofs.sweep.begin_below.Goals as goal

pub returns-clause-those : goal.returns-clause-those
returns-clause-those c =
    let p = follows_below c.args.rect.now.y2 in
    passing _ _ _ (IsPartitionPoint-from_clause (λ b. int_lt b.rect.y1 c.args.rect.now.y2) _ _ c.partition_point.ensures.partitioned (parted _ p _ c.requires) (λ a r f' k. search rules))

pub returns-clause-sorted : goal.returns-clause-sorted
returns-clause-sorted c = sorted_as (λ b. int_lt b.rect.y1 c.args.rect.now.y2) _ _ c.requires (returns-clause-those c)
