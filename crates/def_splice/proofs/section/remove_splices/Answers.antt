use Rattle.std.proofs.Common.{◌≡◌, length, arith, None, Option, Some, List, false, ap, sym, subst, ◌∙◌, refl}
use Rattle.std.specs.List.{filter_map, list_any}
use Rattle.std.specs.Option.{option_map}
use Rattle.design_model.specs.declared.mode.Section.TheVariants.{Components}
use Rattle.statement_model.specs.Tokens.{Token}
use Rattle.def_grammar.specs.Components.{Component}
use Rattle.def_grammar.specs.Located.{component_at, located}
use Rattle.def_grammar.specs.Placing.{is_held, placing}
use Rattle.def_grammar.specs.Records.{entry_of, read_def}
use Rattle.edit_rules.specs.Edits.{of_section}
use Rattle.edit_rules.specs.Plans.{cuts_for, lowest}
use Rattle.edit_rules.specs.SectionEdits.{lists_of, remove_component, taking, tokens_of_found}
use Rattle.place_parts.specs.ComponentViews.{component_view}
use Rattle.def_splice.specs.Lying.{lying_component, lying_tokens}
use Rattle.def_splice.specs.LookupViews.{StandWithin, section_plan_of}
use Rattle.def_splice.proofs.PlaceLemmas.{design_of, some_words}
use Rattle.def_splice.proofs.PlanLemmas.{follows, makes}
use Rattle.def_splice.proofs.StandingLemmas.{of_plan}
use Rattle.def_splice.proofs.section.remove_splices.Goals as goal

pub entry_taken-requires-clause-some : goal.entry_taken-requires-clause-some
entry_taken-requires-clause-some g c = let many = some_words (component_view c.in-Some.parts) in omega (arith, many, ap length c.in-Some.ensures.spelled)

pub entry_taken-requires-clause-stand : goal.entry_taken-requires-clause-stand
entry_taken-requires-clause-stand g c = λ design reads.
    let text = g.L.LookUps.text c.args.lookups.now in
    let name = c.args.component.now in
    let all = located text design in
    let plan = section_plan_of c.args.library.now text design (remove_component name) in
    let found : component_at name all ≡ Some (lying_component (c.in-Some.parts, c.in-Some.entry)) = sym (c.component.ensures.gives design reads) ∙ ap (option_map lying_component) c.in-Some.is in
    let held : is_held (placing (component_view c.in-Some.parts).clauses) ≡ false = sym c.stays.ensures ∙ c.if-stays.false in
    let listed : list_any (lists_of name) (filter_map entry_of design) ≡ false = sym (c.is_listed.ensures design reads) ∙ c.if-is_listed.false in
    let free : lowest plan.refusals ≡ None = rw (found, held, listed) refl in
    let stand = of_plan text plan (c.edits_stand_in_order.ensures c.args.library.now text design (of_section (remove_component name)) reads free) in
    subst (λ (o : Option (List Token × Component)). StandWithin text (taking Components (tokens_of_found o) all design)) found stand

pub returns-clause-makes : goal.returns-clause-makes
returns-clause-makes g c =
    let read = design_of (read_def (g.L.LookUps.text c.args.lookups.now)) c.requires.reads in
    let text = g.L.LookUps.text c.args.lookups.now in
    let name = c.args.component.now in
    let all = located text read.0 in
    let plan = section_plan_of c.args.library.now text read.0 (remove_component name) in
    let found : component_at name all ≡ Some (lying_component (c.in-Some.parts, c.in-Some.entry)) = sym (c.component.ensures.gives read.0 read.1) ∙ ap (option_map lying_component) c.in-Some.is in
    let held : is_held (placing (component_view c.in-Some.parts).clauses) ≡ false = sym c.stays.ensures ∙ c.if-stays.false in
    let listed : list_any (lists_of name) (filter_map entry_of read.0) ≡ false = sym (c.is_listed.ensures read.0 read.1) ∙ c.if-is_listed.false in
    let free : lowest plan.refusals ≡ None = rw (found, held, listed) refl in
    let own = cuts_for text (taking Components (lying_tokens c.in-Some.entry) all read.0) in
    let same = ap (λ o. cuts_for text (taking Components (tokens_of_found o) all read.0)) (sym found) in
    makes c.args.library.now text (of_section (remove_component name)) read.0 read.1 plan refl c.entry_taken.result (follows text plan free c.entry_taken.result own same (c.entry_taken.ensures.cuts read.0 read.1))
