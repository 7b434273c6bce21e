use Rattle.std.proofs.Common.{take}
use Rattle.followed_nets.specs.Stars.{names_of}
use Rattle.followed_nets.proofs.NoteLemmas.{AreOthers}
use Rattle.followed_nets.proofs.followed.names_of_others.Given as goal

abbrev pub invariant-loop-name : goal.invariant-loop-name
invariant-loop-name g l = AreOthers (take l.name-index l.names) (names_of l.stars) l.others.items
