use Rattle.std.proofs.Common.{arith, length, rules, ◌≤◌}
use Rattle.std.proofs.lemmas.List.Sorted.{IsPartitionPoint-from_clause}
use Rattle.kept_lines.specs.Kept.{is_below}
use Rattle.kept_lines.proofs.PlaceLemmas.{parted_lines, place_is}
use Rattle.kept_lines.proofs.kept.KeptLines.place.Goals as goal

pub returns : goal.returns
returns g c =
    let lines = c.self.inside.lines.items in
    let line = c.args.line.now in
    let point = IsPartitionPoint-from_clause (λ l. is_below line l.text) lines _ (rw c.deref.ensures.value at c.partition_point.ensures.partitioned) (parted_lines line lines c.self.invariant) (λ a r q k. search rules) in
    let within : c.partition_point.result ≤ length lines = omega arith in
    rw (← c.self.view_is) (place_is line lines _ point within)
