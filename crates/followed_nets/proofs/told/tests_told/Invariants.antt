use Rattle.std.proofs.Common.{◌≤◌, ◌+◌, drop}
use Rattle.followed_nets.specs.ToldViews.{tests_of}
use Rattle.followed_nets.proofs.told.tests_told.Given as goal

abbrev pub invariant-loop-net : goal.invariant-loop-net
invariant-loop-net g l = l.tests + tests_of (drop l.net-index l.nets) ≤ tests_of l.nets
