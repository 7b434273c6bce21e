use Rattle.std.proofs.Common.{◌≡◌, drop, false}
use Rattle.std.specs.List.{AllByRecursion}
use Rattle.connection_rules.specs.NetParts.{Net}
use Rattle.net_laws.specs.NetChanges.{is_one_of}
use Rattle.followed_nets.proofs.followed.are_others.Given as goal

abbrev pub invariant-loop-star : goal.invariant-loop-star
invariant-loop-star g l =
    AllByRecursion (λ (s : Net). is_one_of l.names s.name ≡ false) (drop l.star-index l.stars) → AllByRecursion (λ (s : Net). is_one_of l.names s.name ≡ false) l.stars
