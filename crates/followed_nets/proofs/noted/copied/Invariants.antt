use Rattle.std.proofs.Common.{◌≡◌, ◌++◌, List, length}
use Rattle.connection_rules.specs.NetParts.{Net}
use Rattle.followed_nets.proofs.noted.copied.Given as goal

abbrev pub invariant-loop-net : goal.invariant-loop-net
invariant-loop-net g l = (before : List Net) × (l.nets ≡ before ++ l.left)

abbrev pub decreases-loop-net : goal.decreases-loop-net
decreases-loop-net g l = length l.left
