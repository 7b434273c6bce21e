use Rattle.std.proofs.Common.{take}
use Rattle.place_checks.specs.Heights.{NoneTaller}
use Rattle.place_checks.proofs.sweep.greatest_height.Given as goal

abbrev pub invariant-loop-b : goal.invariant-loop-b
invariant-loop-b l = NoneTaller (take l.b-index l.boxes) l.tallest
