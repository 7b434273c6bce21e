use Rattle.std.proofs.Common.{◌≡◌, drop}
use Rattle.net_laws.specs.NetChanges.{is_one_of}
use Rattle.followed_nets.proofs.within.is_one_of.Given as goal

abbrev pub invariant-loop-net : goal.invariant-loop-net
invariant-loop-net g l = is_one_of (drop l.net-index l.nets) l.name ≡ is_one_of l.nets l.name
