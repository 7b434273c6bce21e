use Rattle.std.proofs.Common.{◌≡◌, ◌++◌, drop, map}
use Rattle.design_tables.specs.TableViews.{numbered_view}
use Rattle.followed_nets.specs.Noted.{numbers_telling}
use Rattle.followed_nets.proofs.noted.common_numbers.Given as goal

abbrev pub invariant-loop-numbered : goal.invariant-loop-numbered
invariant-loop-numbered g l =
    l.numbers.items ++ numbers_telling (map numbered_view (drop l.numbered-index l.statements)) ≡ numbers_telling (map numbered_view l.statements)
