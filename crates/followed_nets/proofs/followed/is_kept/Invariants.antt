use Rattle.std.proofs.Common.{◌≡◌, drop}
use Rattle.net_laws.specs.NetChanges.{is_one_of}
use Rattle.followed_nets.specs.Stars.{names_of}
use Rattle.followed_nets.proofs.followed.is_kept.Given as goal

abbrev pub invariant-loop-star : goal.invariant-loop-star
invariant-loop-star g l = is_one_of (names_of (drop l.star-index l.stars)) l.name ≡ is_one_of (names_of l.stars) l.name
