use Rattle.std.proofs.Common.{suc, ◌≡◌, ◌<◌, ◌-◌, length, refl, arith}
use Rattle.net_lists.proofs.CutLemmas.{set_last}
use Rattle.net_lists.specs.Building.{part_added}
use Rattle.net_lists.proofs.BuildingLemmas.{net_stays, part_there}
use Rattle.net_lists.proofs.GrowLemmas.{has_nets, part_begun, part_held, part_more}
use Rattle.net_lists.proofs.net_list.NetList.begin_part.Goals as goal

pub invariant_of-self-2 : goal.invariant_of-self-2
invariant_of-self-2 g c =
    let some : 0 < length c.self.inside.nets.items = has_nets _ _ _ c.self.invariant _ c.self.view_is c.requires in
    let count = c.self.inside.nets.ok.0 in
    let place : suc (c.len-last.result - 1) ≡ length c.self.inside.nets.items = omega (arith, count, c.len-last.ensures, some) in
    rw (set_last part_more c.self.inside.nets.items (c.len-last.result - 1) c.index_mut.result.now place c.index_mut.ensures.value, c.in_ok-push.ensures.items)
    (part_held _ _ _ c.self.invariant _ refl some)

pub returns-clause-ok : goal.returns-clause-ok
returns-clause-ok g c =
    let some : 0 < length c.self.inside.nets.items = has_nets _ _ _ c.self.invariant _ c.self.view_is c.requires in
    let count = c.self.inside.nets.ok.0 in
    let place : suc (c.len-last.result - 1) ≡ length c.self.inside.nets.items = omega (arith, count, c.len-last.ensures, some) in
    rw (set_last part_more c.self.inside.nets.items (c.len-last.result - 1) c.index_mut.result.now place c.index_mut.ensures.value, c.in_ok-push.ensures.items, ← c.self.view_is)
    (part_begun _ _ _ c.self.invariant _ refl some)

pub returns-clause-net : goal.returns-clause-net
returns-clause-net g c = rw (returns-clause-ok g c) (net_stays (part_added c.args.is_pin) _ c.requires)

pub returns-clause-part : goal.returns-clause-part
returns-clause-part g c = rw (returns-clause-ok g c) (part_there c.args.is_pin _ c.requires)
