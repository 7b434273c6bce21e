use Rattle.std.proofs.Common.{◌≡◌, ◌∷◌, [], ◌-◌, ◌++◌, None, Bool, length, ap, sym, ◌∙◌, refl, arith}
use Rattle.edit_rules.specs.Plans.{cuts_for, lowest}
use Rattle.lefdef_tokens.specs.Views.{pieces_of, words_of}
use Rattle.net_wiring.specs.WiringViews.{is_said, reads_wiring}
use Rattle.def_splice.specs.SpliceViews.{change_cut}
use Rattle.def_splice.specs.WiringPlanViews.{route_refusals, route_so}
use Rattle.def_splice.proofs.PlaceLemmas.{if_all}
use Rattle.def_splice.proofs.TokenLemmas.{pieces_counted}
use Rattle.def_splice.proofs.wiring.entry_routed.Goals as goal

pub returns-clause-gives : goal.returns-clause-gives
returns-clause-gives g c =
    let text = c.args.entry.text.now in
    let ps = pieces_of c.args.entry in
    let xs = g.C.WiringClauses.left c.args.clauses in
    let bytes = c.args.wiring.now in
    let place = c.wiring_place-place.result in
    let at = c.wiring_place-place.ensures in
    let plan = route_so ps (length (words_of c.args.entry) - g.C.WiringClauses.tokens c.args.clauses) bytes xs (is_said (reads_wiring c.args.section) bytes) in
    let free : lowest plan.refusals ≡ None = ap (λ (b : Bool). lowest (route_refusals xs b)) (sym c.is_wiring.ensures) ∙ sym c.wiring_refusal.ensures ∙ c.in_default.is in
    let one : cuts_for text plan.changes ≡ change_cut text ps place.before place.taken (c.spaced.result.0.now ++ c.spaced.result.1.now) ∷ [] = rw (at.before, at.taken, c.spaced.ensures) refl in
    c.made_one.ensures.gives text plan _ free one c.change_splice.ensures.cut

pub returns-clause-firm : goal.returns-clause-firm
returns-clause-firm g c =
    let many = pieces_counted c.args.entry in
    let at = c.wiring_place-place.ensures in
    if_all c.made_one.result (omega (arith, many, c.requires.some), omega (arith, many, at.before, at.taken, at.within), tt)
