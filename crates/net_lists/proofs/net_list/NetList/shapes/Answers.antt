use Rattle.net_lists.proofs.GrowLemmas.{all_shapes}
use Rattle.net_lists.proofs.net_list.NetList.shapes.Goals as goal

pub returns : goal.returns
returns g c = rw (c.as_slice.ensures.value, ← c.self.view_is) (all_shapes _ _ _ c.self.invariant)
