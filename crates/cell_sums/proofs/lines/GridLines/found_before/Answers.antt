use Rattle.std.proofs.Common.{List, ℤ, rules, subst}
use Rattle.std.proofs.lemmas.List.Sorted.{IsPartitionPoint-from_clause}
use Rattle.std.specs.Int.Signed.{lt_z}
use Rattle.cell_sums.specs.Covered.{AreBefore}
use Rattle.cell_sums.proofs.CoverLemmas.{parted_below}
use Rattle.cell_sums.proofs.lines.GridLines.found_before.Goals as goal

pub returns : goal.returns
returns g c =
    let lines = c.self.inside.lines.items in
    let place = c.args.place in
    let found = rw c.deref.ensures.value at c.partition_point.ensures.partitioned in
    subst (λ (ls : List ℤ). AreBefore ls place c.partition_point.result) c.self.view_is
    (IsPartitionPoint-from_clause (λ l. lt_z l place) lines c.partition_point.result found (parted_below lines place c.self.invariant.rise) (λ a r q k. search rules))
