use Rattle.std.proofs.Common.{◌≡◌, ◌∷◌, [], ◌-◌, None, true, length, sym, ◌∙◌, refl, arith}
use Rattle.edit_rules.specs.NetEdits.{is_wiring}
use Rattle.edit_rules.specs.Plans.{cuts_for, lowest}
use Rattle.lefdef_tokens.specs.Views.{pieces_of, words_of}
use Rattle.net_wiring.specs.WiringViews.{any_passes}
use Rattle.def_splice.specs.SpliceViews.{change_cut}
use Rattle.def_splice.specs.WiringPlanViews.{unroute_so}
use Rattle.def_splice.proofs.PlaceLemmas.{if_all}
use Rattle.def_splice.proofs.TokenLemmas.{pieces_counted}
use Rattle.def_splice.proofs.wiring.entry_unrouted.Goals as goal

pub returns-clause-gives : goal.returns-clause-gives
returns-clause-gives g c =
    let text = c.args.entry.text.now in
    let ps = pieces_of c.args.entry in
    let xs = g.C.WiringClauses.left c.args.clauses in
    let place = c.wiring_place-place.result in
    let at = c.wiring_place-place.ensures in
    let plan = unroute_so ps (length (words_of c.args.entry) - g.C.WiringClauses.tokens c.args.clauses) xs in
    let free : lowest plan.refusals ≡ None = sym c.wiring_refusal.ensures ∙ c.in_default.is in
    let wired : any_passes is_wiring xs ≡ true = sym c.any.ensures ∙ c.if-not-any.false in
    let one : cuts_for text plan.changes ≡ change_cut text ps place.before place.taken [] ∷ [] = rw (wired, at.before, at.taken) refl in
    c.made_one.ensures.gives text plan _ free one c.change_splice.ensures.cut

pub returns-clause-firm : goal.returns-clause-firm
returns-clause-firm g c =
    let many = pieces_counted c.args.entry in
    let at = c.wiring_place-place.ensures in
    let wired : any_passes is_wiring (g.C.WiringClauses.left c.args.clauses) ≡ true = sym c.any.ensures ∙ c.if-not-any.false in
    if_all c.made_one.result (rw wired (omega (arith, many, c.requires.some), omega (arith, many, at.before, at.taken, at.within), tt))
