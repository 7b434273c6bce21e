use Rattle.std.proofs.Common.{length, sym, ap, ◌∙◌}
use Rattle.net_lists.proofs.GrowLemmas.{heads, net_count}
use Rattle.net_lists.proofs.net_list.NetList.heads.Goals as goal

pub returns-clause-heads : goal.returns-clause-heads
returns-clause-heads g c = rw (c.as_slice.ensures.value, ← c.self.view_is) (heads _ _ _ c.self.invariant)

pub returns-clause-len : goal.returns-clause-len
returns-clause-len g c = rw (← c.self.view_is) (ap length c.as_slice.ensures.value ∙ sym (net_count _ _ _ c.self.invariant))
