use Rattle.std.proofs.Common.{◌≡◌, ◌∙◌, false, List, ap, subst, sym}
use Rattle.std.specs.List.{list_any}
use Rattle.design_model.specs.declared.identifier.StmtId.{StmtId}
use Rattle.design_tables.specs.Lookups.{is_number}
use Rattle.design_text.proofs.EntriesOnce.{Taking, taken_too}
use Rattle.design_text.proofs.listing.each_once.Goals as goal

pub loop-id-preserved-in-Ok-1 : goal.loop-id-preserved-in-Ok-1
loop-id-preserved-in-Ok-1 g c =
    let id = c.in-Some.id in
    let taken = c.loop-id.ids.items in
    let none : list_any (is_number id) taken ≡ false = sym (c.is_one_of.ensures ∙ ap (list_any (is_number id)) c.deref.ensures.value) ∙ c.if-not-is_one_of.true in
    let before = subst (λ (l : List StmtId). Taking c.args.numbers l taken) c.in-Some.ensures c.loop-id.invariant in
    rw (c.in-Ok.ensures.items) (taken_too c.args.numbers c.next.new.self taken id none before)
