use Rattle.std.proofs.Common.{length}
use Rattle.design_text.proofs.EntriesOnce.{Taking}
use Rattle.design_text.proofs.listing.each_once.Given as goal

abbrev pub invariant-loop-id : goal.invariant-loop-id
invariant-loop-id g l = Taking l.initial.left l.left l.ids.items

abbrev pub decreases-loop-id : goal.decreases-loop-id
decreases-loop-id g l = length l.left
