use Rattle.std.proofs.Common.{rules, drop}
use Rattle.std.proofs.lemmas.List.{take_rest}
use Rattle.std.proofs.lemmas.List.Sorted.{IsPartitionPoint-from_clause, IsNonDecreasingBy-drop}
use Rattle.std.specs.Ordering.{is_le, is_lt, ordering_index}
use Rattle.place_checks.proofs.Ranges.{parted_below, parted_upto, range_is}
use Rattle.place_checks.proofs.sought.all_equal.Goals as goal

pub returns : goal.returns
returns g c =
    let all = c.args.elements.now in
    let start = c.partition_point-start.result in
    let stands = g.S.Sought.rank c.args.sought.now in
    let next = rw take_rest at c.partition_point-count.ensures.partitioned in
    let low = IsPartitionPoint-from_clause (λ x. is_lt (stands x)) all start c.partition_point-start.ensures.partitioned (parted_below stands all c.requires) (λ a r q k. search rules) in
    let rest = IsNonDecreasingBy-drop (λ x. ordering_index (stands x)) start all c.requires in
    let high = IsPartitionPoint-from_clause (λ x. is_le (stands x)) (drop start all) c.partition_point-count.result next (parted_upto stands (drop start all) rest) (λ a r q k. search rules) in
    let count_fits = rw take_rest at c.partition_point-count.ensures.bound in
    rw take_rest (range_is stands all start c.partition_point-count.result c.partition_point-start.ensures.bound count_fits low high)
