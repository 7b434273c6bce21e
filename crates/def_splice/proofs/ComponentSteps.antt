-- An edit of a component follows its plan for the entry that is found.
use Rattle.std.proofs.Common.{◌≡◌, ◌<◌, ℕ, List, length, map, Some, None, Ok, Err, Option, Result, refl, ap, ◌∙◌, subst, arith}
use Rattle.std.specs.Prelude.{IfOk}
use Rattle.std.proofs.lemmas.List.{length-map}
use Rattle.statement_model.specs.Form.{spell}
use Rattle.statement_model.specs.Tokens.{Token}
use Rattle.def_grammar.specs.Components.{Clause, Component, component_form, placed}
use Rattle.def_grammar.specs.Located.{component_at, located}
use Rattle.def_grammar.specs.Placing.{placing}
use Rattle.def_grammar.specs.Records.{Record, read_def}
use Rattle.edit_model.specs.declared.edit.EditRefusal.{EditRefusal}
use Rattle.edit_model.specs.declared.edit.Splice.{Splice}
use Rattle.lef_grammar.specs.Library.{Library}
use Rattle.edit_rules.specs.ComponentEdits.{ComponentChange, component_plan, entry_plan, place_at, remaster_as, unplace_changes, unplace_it, unplace_plan}
use Rattle.edit_rules.specs.Edits.{of_component, plan_of}
use Rattle.edit_rules.specs.Plans.{Plan, lowest}
use Rattle.edit_laws.specs.EditLaws.{EditsStandInOrder}
use Rattle.edit_laws.specs.PlanLaws.{LieWithin}
use Rattle.lefdef_tokens.specs.Views.{pieces_of, words_of}
use Rattle.place_parts.specs.ComponentViews.{component_view}
use Rattle.place_parts.specs.declared.component_parts.ComponentParts.{ComponentParts}
use Rattle.def_splice.specs.Lying.{AreFirm, LiesIn, lying_component, moved_change, moved_plan, moved_tokens}
use Rattle.def_splice.specs.SpliceViews.{FollowsAll, MakesOne, MakesSplices}
use Rattle.def_splice.specs.declared.lying.Lying.{Lying}
use Rattle.def_splice.proofs.LyingLemmas.{HaveSome, firm_there}
use Rattle.def_splice.proofs.PlaceLemmas.{some_words}
use Rattle.def_splice.proofs.PlanLemmas.{makes}

-- what holds of a plan that isn't refused holds where its splice is made
pub if_made : {A : Type 0} (text : List ℕ) (plan : Plan) (local : Result (Option (Splice A)) EditRefusal) (Q : Type 0) → MakesOne text plan local → (lowest plan.refusals ≡ None → Q) → IfOk local (λ _. Q)
if_made text plan (Ok splice) Q one holds = holds one.0
if_made text plan (Err refusal) Q one holds = tt

-- an entry of a component has tokens
pub some_tokens : (c : Component) (x : Lying) → words_of x.tokens ≡ spell component_form c → 0 < length (pieces_of x.tokens)
some_tokens c x spelled = let many = some_words c in omega (arith, many, ap length spelled, length-map (pieces_of x.tokens) (λ p. p.bytes))

-- the plan of tokens that are moved is the moved plan
unplaces_moved : (at : ℕ) (ps : List Token) (c : Component) (old : Option Clause) → unplace_changes (moved_tokens at ps) c old ≡ map (moved_change at) (unplace_changes ps c old)
unplaces_moved at ps c (Some (placed status p o)) = refl
unplaces_moved at ps c _ = refl

plan_moved : (library : Library) (change : ComponentChange) (at : ℕ) (ps : List Token) (c : Component) → entry_plan library change (moved_tokens at ps) c ≡ moved_plan at (entry_plan library change ps c)
plan_moved library (place_at x y o) at ps c = refl
plan_moved library unplace_it at ps c = ap (λ changes. record { refusals = (unplace_plan ps c).refusals; changes = changes }) (unplaces_moved at ps c (placing c.clauses))
plan_moved library (remaster_as cell) at ps c = refl

-- its changes are of the entry, which has tokens
unplaces_some : (ps : List Token) (c : Component) (old : Option Clause) → 0 < length ps → HaveSome (unplace_changes ps c old)
unplaces_some ps c (Some (placed status p o)) some = (some, tt)
unplaces_some ps c _ some = tt

plan_some : (library : Library) (change : ComponentChange) (ps : List Token) (c : Component) → 0 < length ps → HaveSome (entry_plan library change ps c).changes
plan_some library (place_at x y o) ps c some = (some, tt)
plan_some library unplace_it ps c some = unplaces_some ps c (placing c.clauses) some
plan_some library (remaster_as cell) ps c some = (some, tt)

module _ (library : Library) (text name : List ℕ) (change : ComponentChange) (x : ComponentParts × Lying) (design : List Record) (reads : read_def text ≡ Ok design) (found : component_at name (located text design) ≡ Some (lying_component x)) where
  abbrev own : Plan
  own = entry_plan library change (pieces_of x.1.tokens) (component_view x.0)

  abbrev there : Plan
  there = moved_plan x.1.at own

  planned : plan_of library text design (of_component name change) ≡ there
  planned = ap (component_plan library change) found ∙ plan_moved library change x.1.at (pieces_of x.1.tokens) (component_view x.0)

  pub component_follows : EditsStandInOrder → LiesIn text x.1 → 0 < length (pieces_of x.1.tokens) → {A : Type 0} (local : Result (Option (Splice A)) EditRefusal) → MakesOne x.1.tokens.text.now own local
      → (r : Result (List (Splice A)) EditRefusal) → ((plan : Plan) → IfOk local (λ _. AreFirm plan.changes) → MakesOne x.1.tokens.text.now plan local → FollowsAll text (moved_plan x.1.at plan) r)
      → MakesSplices library text (of_component name change) r
  component_follows order_so lies some local one r follows =
      let firmly : lowest own.refusals ≡ None → AreFirm own.changes = λ free.
      let all = (order_so library text design (of_component name change) reads (ap (λ (q : Plan). lowest q.refusals) planned ∙ free)).within in
      firm_there x.1.at own.changes (plan_some library change (pieces_of x.1.tokens) (component_view x.0) some) (subst (λ (q : Plan). LieWithin q.changes) planned all) in
      makes library text (of_component name change) design reads there planned r (follows own (if_made x.1.tokens.text.now own local (AreFirm own.changes) one firmly) one)
