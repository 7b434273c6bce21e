use Rattle.std.proofs.Common.{◌∷◌, [], ap, ap₂, sym}
use Rattle.lefdef_tokens.specs.Views.{pieces_of}
use Rattle.def_reader.specs.EntryViews.{entry_view}
use Rattle.edit_rules.specs.NetEdits.{disconnect_from, plan_of_entry}
use Rattle.def_splice.specs.SpliceViews.{change_cut}
use Rattle.def_splice.proofs.NetPlans.{firm_to_disconnect, free_to_disconnect, not_connected}
use Rattle.def_splice.proofs.PlaceLemmas.{if_all}
use Rattle.def_splice.proofs.net.entry_disconnected.Goals as goal

pub returns-in_default-clause-gives : goal.returns-in_default-clause-gives
returns-in_default-clause-gives g c = λ library design.
    not_connected library design c.args.owner.now c.args.pin.now (pieces_of c.args.tokens) (entry_view c.args.entry.now) c.in_default.ensures.listed

pub returns-clause-gives : goal.returns-clause-gives
returns-clause-gives g c = λ library design.
    let e = entry_view c.args.entry.now in
    let ps = pieces_of c.args.tokens in
    let text = c.args.tokens.text.now in
    let same = ap₂ (λ before taken. change_cut text ps before taken []) c.in-Some.ensures.before c.in-Some.ensures.taken in
    let plan = plan_of_entry library design (disconnect_from c.args.owner.now c.args.pin.now) ps e in
    c.made_one.ensures.gives text plan _ (free_to_disconnect library design c.args.owner.now c.args.pin.now ps e c.in-Some.ensures.listed) (ap (λ x. x ∷ []) (sym same)) c.change_splice.ensures.cut

pub returns-clause-firm : goal.returns-clause-firm
returns-clause-firm g c = λ library design.
    if_all c.made_one.result (firm_to_disconnect library design c.args.owner.now c.args.pin.now c.args.tokens (entry_view c.args.entry.now) c.in-Some.before c.in-Some.taken c.in-Some.ensures.before c.in-Some.ensures.taken c.in-Some.ensures.within)
