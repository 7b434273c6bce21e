-- What a plan gives, by its refusals and its cuts.
use Rattle.std.proofs.Common.{◌≤◌, length, ◌≡◌, ◌++◌, ℕ, true, false, List, [], ◌∷◌, Some, None, Result, Ok, Err, Bool, map, inl, inr, refl, sym, ap, ◌∙◌}
use Rattle.std.specs.Prelude.{cond}
use Rattle.std.proofs.lemmas.Bool.{cases_Bool, le-ltb}
use Rattle.design_model.specs.declared.TheConstants.{MAX_TEXT}
use Rattle.statement_model.specs.Cuts.{Cut, with_cuts}
use Rattle.def_grammar.specs.Records.{Record, read_def}
use Rattle.edit_model.specs.declared.edit.EditCode.{EditCode}
use Rattle.edit_model.specs.declared.edit.EditCode.TheVariants.{TooLong}
use Rattle.edit_model.specs.declared.edit.EditRefusal.{EditRefusal}
use Rattle.edit_model.specs.declared.edit.EditRefusal.TheVariants.{Refused, Unreadable, Memory}
use Rattle.edit_model.specs.declared.edit.Splice.{Splice}
use Rattle.edit_rules.specs.Edits.{Change, plan_of}
use Rattle.edit_rules.specs.Plans.{Plan, cuts_for, is_long, lowest, outcome_of, unless}
use Rattle.edit_rules.specs.Runs.{Makes, MayWantMemory}
use Rattle.lef_grammar.specs.Library.{Library}
use Rattle.def_splice.specs.SpliceViews.{AreCuts, FollowsAll, MakesSplices, cut_view}

lowest_some : (rs more : List (Bool × EditCode)) (code : EditCode) → lowest rs ≡ Some code → lowest (rs ++ more) ≡ Some code
lowest_some [] more code is = absurd (cc)
lowest_some (r ∷ rs) more code is = elim (cases_Bool r.0) [
  | inl so ↦ let k : Some r.1 ≡ Some code = rw so at is in rw so k
  | inr not_so ↦ let k : lowest rs ≡ Some code = rw not_so at is in rw not_so (lowest_some rs more code k)
]

lowest_none : (rs more : List (Bool × EditCode)) → lowest rs ≡ None → lowest (rs ++ more) ≡ lowest more
lowest_none [] more is = refl
lowest_none (r ∷ rs) more is = elim (cases_Bool r.0) [
  | inl so ↦ let k : Some r.1 ≡ None = rw so at is in absurd (cc)
  | inr not_so ↦ let k : lowest rs ≡ None = rw not_so at is in rw not_so (lowest_none rs more k)
]

module _ (text : List ℕ) (plan : Plan) where
  abbrev cuts : List Cut
  cuts = cuts_for text plan.changes

  pub refused : (code : EditCode) → lowest plan.refusals ≡ Some code → outcome_of text plan ≡ Err code
  refused code is = ap (λ r. unless r cuts) (lowest_some plan.refusals ((is_long (with_cuts cuts text), TooLong) ∷ []) code is)

  module _ (free : lowest plan.refusals ≡ None) where
    by_length : outcome_of text plan ≡ unless (cond (is_long (with_cuts cuts text)) (Some TooLong) None) cuts
    by_length = ap (λ r. unless r cuts) (lowest_none plan.refusals ((is_long (with_cuts cuts text), TooLong) ∷ []) free)

    long_refused : is_long (with_cuts cuts text) ≡ true → outcome_of text plan ≡ Err TooLong
    long_refused is = by_length ∙ ap (λ b. unless (cond b (Some TooLong) None) cuts) is

    short_made : is_long (with_cuts cuts text) ≡ false → outcome_of text plan ≡ Ok cuts
    short_made is = by_length ∙ ap (λ b. unless (cond b (Some TooLong) None) cuts) is

    -- one that nothing refuses but its length may want memory
    pub wants : MayWantMemory (outcome_of text plan)
    wants = elim (cases_Bool (is_long (with_cuts cuts text))) [
      | inl long ↦ rw (long_refused long) refl
      | inr short ↦ rw (short_made short) tt
    ]

    -- and its cuts follow it
    pub follows : {A : Type 0} (r : Result (List (Splice A)) EditRefusal) (own : List Cut) → own ≡ cuts → AreCuts text own r → FollowsAll text plan r
    follows (Ok ss) own same are =
        let k = rw same at are in
        short_made k.1 ∙ ap (λ (z : List Cut). Ok z) (sym k.0)
    follows (Err (Refused code)) own same are =
        let k = rw same at are in
        long_refused k.1 ∙ ap (λ (z : EditCode). Err z) (sym k.0)
    follows (Err (Unreadable fault)) own same are = are
    follows (Err Memory) own same are = wants

    -- one without changes makes no cut
    pub unchanged : length text ≤ MAX_TEXT → plan.changes ≡ [] → outcome_of text plan ≡ Ok []
    unchanged fits none =
        let no_cuts : cuts ≡ [] = ap (cuts_for text) none in
        let short : is_long (with_cuts cuts text) ≡ false = rw no_cuts (le-ltb MAX_TEXT (length text) fits) in
        short_made short ∙ ap (λ (z : List Cut). Ok z) no_cuts

-- what follows the plan of an edit makes its splices
module _ (library : Library) (text : List ℕ) (change : Change) (design : List Record) (reads : read_def text ≡ Ok design) (plan : Plan) (is : plan_of library text design change ≡ plan) where
  so : (outcome : Result (List Cut) EditCode) → outcome_of text plan ≡ outcome → Makes library text change outcome
  so outcome gives = (design, reads, ap (outcome_of text) is ∙ gives)

  pub makes : {A : Type 0} (r : Result (List (Splice A)) EditRefusal) → FollowsAll text plan r → MakesSplices library text change r
  makes (Ok ss) follows = so (Ok (map cut_view ss)) follows
  makes (Err (Refused code)) follows = so (Err code) follows
  makes (Err (Unreadable fault)) follows = follows
  makes (Err Memory) may = (outcome_of text plan, so (outcome_of text plan) refl, may)
