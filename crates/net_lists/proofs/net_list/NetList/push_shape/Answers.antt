use Rattle.std.proofs.Common.{suc, ◌≡◌, ◌-◌, length, arith}
use Rattle.net_lists.proofs.CutLemmas.{set_last}
use Rattle.net_lists.proofs.BuildingLemmas.{has_net, net_stays, part_stays}
use Rattle.net_lists.proofs.GrowLemmas.{has_part, shape_more, shape_held, shape_pushed, some_parts}
use Rattle.net_lists.proofs.net_list.NetList.push_shape.Goals as goal

pub overflow_sub-last : goal.overflow_sub-last
overflow_sub-last g c =
    let some = some_parts _ _ _ c.self.invariant (has_part _ _ _ c.self.invariant _ c.self.view_is c.requires) in
    omega (arith, some, c.self.inside.parts.ok.0, c.len-last.ensures)

pub index_mut-requires : goal.index_mut-requires
index_mut-requires g c =
    let some = some_parts _ _ _ c.self.invariant (has_part _ _ _ c.self.invariant _ c.self.view_is c.requires) in
    omega (arith, some, c.self.inside.parts.ok.0, c.len-last.ensures)

pub index-requires : goal.index-requires
index-requires g c =
    let some = some_parts _ _ _ c.self.invariant (has_part _ _ _ c.self.invariant _ c.self.view_is c.requires) in
    omega (arith, some, c.self.inside.parts.ok.0, c.len-last.ensures)

pub invariant_of-self-2 : goal.invariant_of-self-2
invariant_of-self-2 g c =
    let part = has_part _ _ _ c.self.invariant _ c.self.view_is c.requires in
    let some = some_parts _ _ _ c.self.invariant part in
    let place : suc (c.len-last.result - 1) ≡ length c.self.inside.parts.items = omega (arith, c.self.inside.parts.ok.0, c.len-last.ensures, some) in
    rw (c.in_ok-part.ensures, set_last shape_more c.self.inside.parts.items (c.len-last.result - 1) c.index.result.now place c.index.ensures, c.in_ok-push.ensures.items)
    (shape_held _ _ _ c.self.invariant part _)

pub returns-clause-ok : goal.returns-clause-ok
returns-clause-ok g c =
    let part = has_part _ _ _ c.self.invariant _ c.self.view_is c.requires in
    let some = some_parts _ _ _ c.self.invariant part in
    let place : suc (c.len-last.result - 1) ≡ length c.self.inside.parts.items = omega (arith, c.self.inside.parts.ok.0, c.len-last.ensures, some) in
    rw (c.in_ok-part.ensures, set_last shape_more c.self.inside.parts.items (c.len-last.result - 1) c.index.result.now place c.index.ensures, c.in_ok-push.ensures.items, ← c.self.view_is)
    (shape_pushed _ _ _ c.self.invariant part _)

pub returns-clause-net : goal.returns-clause-net
returns-clause-net g c = rw (returns-clause-ok g c) (net_stays _ c.args.self.now (has_net _ c.requires))

pub returns-clause-part : goal.returns-clause-part
returns-clause-part g c = rw (returns-clause-ok g c) (part_stays _ c.args.self.now c.requires)
