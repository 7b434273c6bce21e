use Rattle.std.proofs.Common.{rules, ◌<◌, ◌∙◌, inr, length, sym, subst, vec_capacity}
use Rattle.shape_index.specs.GapOrder.{IsGap, IsPutIn, Moves}
use Rattle.shape_index.proofs.Gapped.{has_room, lent_back}
use Rattle.shape_index.proofs.gaps.put_in.Goals as goal

pub unwrap-requires : goal.unwrap-requires
unwrap-requires g c =
    let room : length c.args.order.now.items < vec_capacity c.args.order.now = has_room c.args.order.now.items c.deref.result.now (vec_capacity c.args.order.now) c.capacity.result c.deref.ensures.value c.capacity.ensures c.in-None.ensures.none c.requires.room in
    search rules

pub returns-in-Some-clause-put : goal.returns-in-Some-clause-put
returns-in-Some-clause-put g c =
    let old = c.args.order.now.items in
    let gap : IsGap old c.in-Some.gap = subst (λ l. IsGap l c.in-Some.gap) c.deref.ensures.value c.in-Some.ensures.gap in
    let moved : Moves old c.in-Some.gap c.args.place c.args.id c.move_to.new.order = subst (λ l. Moves l c.in-Some.gap c.args.place c.args.id c.move_to.new.order) c.deref_mut.ensures.value c.move_to.ensures.moved in
    subst (λ l. IsPutIn old c.args.place c.args.id l) (sym (lent_back c.move_to.new.order old c.args.order.now.len (c.move_to.ensures.len ∙ c.deref_mut.ensures.len))) (inr (c.in-Some.gap, gap, moved))

pub returns-in-None-clause-capacity : goal.returns-in-None-clause-capacity
returns-in-None-clause-capacity g c =
    let room : length c.args.order.now.items < vec_capacity c.args.order.now = has_room c.args.order.now.items c.deref.result.now (vec_capacity c.args.order.now) c.capacity.result c.deref.ensures.value c.capacity.ensures c.in-None.ensures.none c.requires.room in
    search rules
