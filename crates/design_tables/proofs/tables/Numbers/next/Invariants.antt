use Rattle.std.proofs.Common.{◌≡◌, length}
use Rattle.design_tables.specs.Lookups.{ids_with}
use Rattle.design_tables.proofs.tables.Numbers.next.Given as goal

abbrev pub invariant-loop-mark : goal.invariant-loop-mark
invariant-loop-mark l = ids_with l.self-inside.role l.self-inside.marks.now ≡ ids_with l.initial.self-inside.role l.initial.self-inside.marks.now

abbrev pub decreases-loop-mark : goal.decreases-loop-mark
decreases-loop-mark l = length l.self-inside.marks.now
