use Rattle.net_lists.proofs.GrowLemmas.{net_count}
use Rattle.net_lists.proofs.net_list.NetList.len.Goals as goal

pub returns : goal.returns
returns g c = rw (← c.self.view_is) (let e = net_count _ _ _ c.self.invariant in cc (c.len.ensures))
