use Rattle.std.proofs.Common.{◌≡◌, ◌∷◌, [], None, Some, ap, sym, ◌∙◌, rules, refl, codes}
use Rattle.statement_model.specs.Cuts.{end_of_all}
use Rattle.statement_model.specs.Reading.{pos_of}
use Rattle.edit_rules.specs.ComponentEdits.{unplace_plan}
use Rattle.edit_rules.specs.Plans.{cuts_for, put_apart}
use Rattle.std.specs.Option.{option_map}
use Rattle.def_grammar.specs.Placing.{placing}
use Rattle.lefdef_tokens.specs.Views.{pieces_of}
use Rattle.place_parts.specs.ClauseViews.{clause_view}
use Rattle.place_parts.specs.ComponentViews.{component_view}
use Rattle.place_parts.specs.PlacingViews.{IsPlacing}
use Rattle.def_splice.proofs.PlaceLemmas.{never_held, unplaces_none, unplaces_placed, unplaces_unplaced}
use Rattle.def_splice.proofs.component.entry_unplaced.Goals as goal

pub returns-in_default-clause-gives : goal.returns-in_default-clause-gives
returns-in_default-clause-gives g c =
    let text = c.args.entry.text.now in
    let ps = pieces_of c.args.entry in
    let what = component_view c.args.component in
    let none : placing what.clauses ≡ None = sym c.placing_tokens.ensures.clause ∙ ap (option_map (λ x. clause_view x.0)) c.in_default.is in
    (never_held text ps what None none refl, ap (cuts_for text) (unplaces_none text ps what none))

pub returns-then-not-is_placed-clause-gives : goal.returns-then-not-is_placed-clause-gives
returns-then-not-is_placed-clause-gives g c =
    let text = c.args.entry.text.now in
    let ps = pieces_of c.args.entry in
    let what = component_view c.args.component in
    let old = clause_view c.in-Some.clause in
    let found : placing what.clauses ≡ Some old = sym c.placing_tokens.ensures.clause ∙ ap (option_map (λ x. clause_view x.0)) c.in-Some.is in
    let free = sym c.is_held.ensures ∙ c.if-is_held.false in
    let isnt = sym c.is_placed.ensures ∙ c.if-not-is_placed.true in
    (never_held text ps what (Some old) found free, ap (cuts_for text) (unplaces_unplaced text ps what old found isnt))

pub returns-clause-gives : goal.returns-clause-gives
returns-clause-gives g c =
    let text = c.args.entry.text.now in
    let ps = pieces_of c.args.entry in
    let what = component_view c.args.component in
    let old = clause_view c.in-Some.clause in
    let found : placing what.clauses ≡ Some old = sym c.placing_tokens.ensures.clause ∙ ap (option_map (λ x. clause_view x.0)) c.in-Some.is in
    let free = sym c.is_held.ensures ∙ c.if-is_held.false in
    let is = sym c.is_placed.ensures ∙ c.if-not-is_placed.false in
    let run : IsPlacing what c.args.entry c.in-Some.tokens = search rules in
    let own = pieces_of c.in-Some.tokens in
    let placed = ap (λ t. put_apart t (pos_of own) (end_of_all own) (codes "UNPLACED") ∷ []) c.in-Some.ensures.text ∙ unplaces_placed text ps what old c.args.entry c.in-Some.tokens found is refl run in
    c.made_one.ensures.gives text (unplace_plan ps what) _ (never_held text ps what (Some old) found free) (sym placed) c.over_tokens.ensures.cut
