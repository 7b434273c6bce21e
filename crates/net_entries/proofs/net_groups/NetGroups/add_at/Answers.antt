use Rattle.std.proofs.Common.{◌≡◌, ◌++◌, arith, drop, length, map, take, ap, refl, ◌∙◌}
use Rattle.std.proofs.lemmas.List.{take_at}
use Rattle.std.proofs.lemmas.Result.{on_ok_weaker}
use Rattle.net_entries.specs.Places.{net_group_view, with_member_at}
use Rattle.net_entries.proofs.PlaceLemmas.{added_behind, added_there}
use Rattle.net_entries.proofs.net_groups.NetGroups.add_at.Goals as goal

pub returns-then-place-len : goal.returns-then-place-len
returns-then-place-len g c =
    let old = c.self.inside.groups.items in
    let new = c.push_at.new.groups in
    let lent : take c.self.inside.groups.len (new ++ drop (length new) old) ≡ new = take_at new (drop (length new) old) c.self.inside.groups.len (c.push_at.auto.groups ∙ c.deref_mut.ensures.len) in
    on_ok_weaker c.push_at.result
    (λ put. ap (map net_group_view) lent
    ∙ added_there c.args.entry c.args.name.now c.args.place old new c.args.self.now
    c.requires c.self.view_is (omega (arith, c.if-place-len.true, c.len.ensures)) (put ∙ ap (λ gs. with_member_at c.args.place c.args.entry (map net_group_view gs)) c.deref_mut.ensures.value))
    c.push_at.ensures

pub returns : goal.returns
returns g c =
    added_behind c.args.entry c.args.name.now c.args.place c.self.inside.groups.items c.push.new.self.items (record { name = c.args.name; entries = _ }) c.args.self.now
    c.requires c.self.view_is (omega (arith, c.if-place-len.false, c.len.ensures)) c.in_ok-push.ensures.items refl
