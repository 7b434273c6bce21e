use Rattle.std.proofs.Common.{refl}
use Rattle.net_lists.proofs.BuildingLemmas.{net_begun}
use Rattle.net_lists.proofs.GrowLemmas.{net_held, with_net}
use Rattle.net_lists.proofs.net_list.NetList.begin_net.Goals as goal

pub invariant_of-self-2 : goal.invariant_of-self-2
invariant_of-self-2 g c = rw c.in_ok-push.ensures.items (net_held _ _ _ c.self.invariant _ refl)

pub returns-clause-ok : goal.returns-clause-ok
returns-clause-ok g c = rw (c.in_ok-push.ensures.items, ← c.self.view_is) (with_net _ _ _ c.self.invariant _ refl)

pub returns-clause-net : goal.returns-clause-net
returns-clause-net g c = rw (returns-clause-ok g c) (net_begun _ _)
