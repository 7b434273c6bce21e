use Rattle.std.proofs.Common.{◌≡◌, drop}
use Rattle.std.specs.List.{list_any}
use Rattle.design_tables.specs.Lookups.{is_number}
use Rattle.followed_nets.proofs.numbers.is_among.Given as goal

abbrev pub invariant-loop-other : goal.invariant-loop-other
invariant-loop-other l = list_any (is_number l.id) (drop l.other-index l.ids) ≡ list_any (is_number l.id) l.ids
