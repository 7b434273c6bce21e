-- A text with the cuts of an accepted plan made reads as the new design.
use Rattle.std.proofs.Common.{◌≡◌, ℕ, Bool, true, false, List, [], ◌∷◌, ◌++◌, length, Option, Some, None, Result, Ok, arith, refl, subst, ⊎_elim}
use Rattle.std.proofs.lemmas.Bool.{cases_Bool as cases}
use Rattle.edit_model.specs.declared.edit.EditCode.{EditCode}
use Rattle.edit_model.specs.declared.edit.EditCode.TheVariants.{TooLong}
use Rattle.design_model.specs.declared.fault.Fault.{Fault}
use Rattle.design_model.specs.declared.mode.Mode.TheVariants.{Top}
use Rattle.statement_model.specs.Tokens.{Token, tokens}
use Rattle.statement_model.specs.Cuts.{Cut, with_cuts}
use Rattle.statement_model.specs.Reading.{read_from, read_text}
use Rattle.def_grammar.specs.Records.{Record, def, read_def}
use Rattle.def_grammar.specs.Located.{located}
use Rattle.edit_rules.specs.Plans.{Plan, StatementChange, cuts_for, lowest, unless, is_long, outcome_of}
use Rattle.edit_laws.specs.PlanLaws.{LieWithin, PlansAreApplied, PlansStandInOrder}
use Rattle.edit_laws.specs.StatementLaws.{Make, StatementsAreChanged, ChangesStandInOrder}

-- a text that isn't long reads as its tokens do
short_reads : (text : List ℕ) (r : Result (List Record) Fault) → is_long text ≡ false → read_from def (Top, []) (tokens text) ≡ r → read_def text ≡ r
unfolding read_text
short_reads text r short reads = rw short reads

pub tokens_read : (text : List ℕ) (design : List Record) → read_def text ≡ Ok design → read_from def (Top, []) (tokens text) ≡ Ok design
unfolding read_text
tokens_read text design reads = ⊎_elim
    (λ (long : is_long text ≡ true). let e = rw long at reads in absurd (cc))
    (λ (short : is_long text ≡ false). rw short at reads)
    (cases (is_long text))

-- where nothing refuses, no reason before the last does
none_lowest : (rs : List (Bool × EditCode)) (long : Bool) → lowest (rs ++ (long, TooLong) ∷ []) ≡ None → (lowest rs ≡ None) × (long ≡ false)
none_lowest [] true e = absurd (cc)
none_lowest [] false e = (refl, refl)
none_lowest ((true, code) ∷ rs) long e = absurd (cc)
none_lowest ((false, code) ∷ rs) long e = none_lowest rs long e

none_refuses : (o : Option EditCode) (made cuts : List Cut) → unless o made ≡ Ok cuts → (o ≡ None) × (made ≡ cuts)
none_refuses None made cuts e = (refl, cc)
none_refuses (Some code) made cuts e = absurd (cc)

-- a plan that is accepted
pub record Accepted (text : List ℕ) (plan : Plan) (cuts : List Cut) : Type 0 where
  pub free : lowest plan.refusals ≡ None
  pub short : is_long (with_cuts (cuts_for text plan.changes) text) ≡ false
  pub cuts_are : cuts_for text plan.changes ≡ cuts

pub accepted : (text : List ℕ) (plan : Plan) (cuts : List Cut) → outcome_of text plan ≡ Ok cuts → Accepted text plan cuts
accepted text plan cuts made =
    let made_cuts = cuts_for text plan.changes in
    let long = is_long (with_cuts made_cuts text) in
    let ok = none_refuses (lowest (plan.refusals ++ (long, TooLong) ∷ [])) made_cuts cuts made in
    let none = none_lowest plan.refusals long ok.0 in
    record { free = none.0; short = none.1; cuts_are = ok.1 }

pub plans_are_applied : StatementsAreChanged → PlansAreApplied
plans_are_applied changed_so text design new plan cuts reads plans made =
    let a = accepted text plan cuts made in
    let p = plans a.free in
    let changed = changed_so text 0 Top [] design new plan.changes (omega arith) (tokens_read text design reads) p.0 p.1 in
    subst (λ (cs : List Cut). read_def (with_cuts cs text) ≡ Ok new) a.cuts_are (short_reads (with_cuts (cuts_for text plan.changes) text) (Ok new) a.short changed)

-- changes that make records lie within their statements
all_within : (all : List (List Token × Record)) (changes : List (List Token × StatementChange)) (new : List Record) → Make all changes new → LieWithin changes
all_within all [] new made = tt
all_within all (x ∷ xs) new made = (made.2.within, all_within made.1.others xs made.3 made.4)

pub plans_stand_in_order : ChangesStandInOrder → PlansStandInOrder
plans_stand_in_order order_so text design new plan reads plans free =
    let p = plans free in
    record {
      within = all_within (located text design) plan.changes new p.0;
      ordered = order_so text 0 Top [] design new plan.changes (omega arith) (tokens_read text design reads) p.0;
    }
