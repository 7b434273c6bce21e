use Rattle.std.proofs.Common.{◌≡◌, false, ◌∷◌, [], length, ap, sym, refl, rules, arith, ◌∙◌}
use Rattle.std.proofs.lemmas.Result.{err_from_is_err_and}
use Rattle.std.specs.Option.{option_map}
use Rattle.def_grammar.specs.Placing.{placing, is_held}
use Rattle.edit_rules.specs.ComponentEdits.{is_out, place_plan, placed_text}
use Rattle.lefdef_tokens.specs.Views.{pieces_of}
use Rattle.place_parts.specs.ClauseViews.{clause_view}
use Rattle.place_parts.specs.ComponentViews.{component_view}
use Rattle.def_splice.specs.SpliceViews.{clause_cut}
use Rattle.def_splice.proofs.PlaceLemmas.{all_but_last, cut_of_clause, free_to_place}
use Rattle.def_splice.proofs.place.entry_placed.Goals as goal

pub clause_splice-requires-clause-some : goal.clause_splice-requires-clause-some
clause_splice-requires-clause-some g c =
    let k = ap length c.requires.spelled ∙ all_but_last (component_view c.args.component) in omega (arith, k)

pub returns-in_err-put-clause-gives : goal.returns-in_err-put-clause-gives
returns-in_err-put-clause-gives g c =
    let what = component_view c.args.component in
    let ps = pieces_of c.args.entry in
    let held : is_held (placing what.clauses) ≡ false = rw c.placing_tokens.ensures.clause at c.in_ok-clause.ensures.0 in
    let low : is_out c.args.x ≡ false = search rules in
    let high : is_out c.args.y ≡ false = search rules in
    let free = free_to_place c.args.x c.args.y c.args.orient ps what held low high in
    let p = err_from_is_err_and c.from_residual-in_err-put.result c.from_residual-in_err-put.ensures.1 in
    rw (p.1, p.2) free

pub returns-clause-gives : goal.returns-clause-gives
returns-clause-gives g c =
    let text = c.args.entry.text.now in
    let what = component_view c.args.component in
    let ps = pieces_of c.args.entry in
    let held : is_held (placing what.clauses) ≡ false = rw c.placing_tokens.ensures.clause at c.in_ok-clause.ensures.0 in
    let low : is_out c.args.x ≡ false = search rules in
    let high : is_out c.args.y ≡ false = search rules in
    let free = free_to_place c.args.x c.args.y c.args.orient ps what held low high in
    let put : c.deref.result.now ≡ placed_text c.args.x c.args.y c.args.orient = search rules in
    let same : clause_cut text ps (option_map pieces_of c.in_ok-clause.clause) c.deref.result.now ≡ clause_cut text ps (option_map pieces_of (option_map (λ p. p.1) c.placing_tokens.result)) (placed_text c.args.x c.args.y c.args.orient)
    = rw (c.in_ok-clause.ensures.1, put) refl in
    let cut = same ∙ cut_of_clause text c.args.entry what c.args.x c.args.y c.args.orient clause_view c.placing_tokens.result c.placing_tokens.ensures.clause c.placing_tokens.ensures.gives c.requires.spelled in
    c.made_one.ensures.gives text (place_plan c.args.x c.args.y c.args.orient ps what) _ free (ap (λ x. x ∷ []) (sym cut)) c.clause_splice.ensures.gives
