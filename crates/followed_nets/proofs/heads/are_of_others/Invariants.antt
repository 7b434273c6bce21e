use Rattle.std.proofs.Common.{◌≡◌, drop, false, map}
use Rattle.std.specs.List.{AllByRecursion}
use Rattle.net_laws.specs.NetChanges.{is_one_of}
use Rattle.followed_nets.specs.Heads.{Head}
use Rattle.followed_nets.specs.ToldViews.{head_view}
use Rattle.followed_nets.proofs.heads.are_of_others.Given as goal

abbrev pub invariant-loop-head : goal.invariant-loop-head
invariant-loop-head g l =
    AllByRecursion (λ (h : Head). is_one_of l.names h.name ≡ false) (map head_view (drop l.head-index l.heads)) → AllByRecursion (λ (h : Head). is_one_of l.names h.name ≡ false) (map head_view l.heads)
