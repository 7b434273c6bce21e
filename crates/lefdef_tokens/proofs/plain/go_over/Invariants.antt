use Rattle.std.proofs.Common.{◌-◌, length}
use Rattle.lefdef_tokens.specs.Skipping.{HasBegun}
use Rattle.lefdef_tokens.proofs.plain.go_over.Given as goal

abbrev pub invariant-loop-at : goal.invariant-loop-at
invariant-loop-at l = HasBegun l.text l.from l.at l.count

abbrev pub decreases-loop-at : goal.decreases-loop-at
decreases-loop-at l = length l.text - l.at
