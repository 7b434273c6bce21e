-- A text that reads has no bad number: each of its records stands in its form without one.
use Rattle.std.proofs.Common.{◌≡◌, ℕ, Bool, true, false, List, [], ◌∷◌, ◌++◌, length, Option, Some, None, Result, Ok, Err, refl, sym, ap, ⊎_elim, if◌then◌else◌}
use Rattle.std.specs.List.{All}
use Rattle.std.specs.Prelude.{nat_lt}
use Rattle.std.proofs.lemmas.Bool.{cases_Bool as cases}
use Rattle.std.proofs.lemmas.List.Elements.{All-nil, All-cons}
use Rattle.design_model.specs.declared.TheConstants.{MAX_TEXT}
use Rattle.design_model.specs.declared.fault.Fault.{Fault}
use Rattle.design_model.specs.declared.fault.FaultCode.{FaultCode}
use Rattle.statement_model.specs.Tokens.{Token, tokens}
use Rattle.statement_model.specs.Boundaries.{words, is_whole}
use Rattle.statement_model.specs.Folds.{◌>>◌}
use Rattle.statement_model.specs.Form.{whole}
use Rattle.statement_model.specs.Grammar.{Key, Grammar}
use Rattle.statement_model.specs.Reading.{repeats, checked, formed, read_form, unless_repeated, read_one, ended, at_last, read_on, read_from, read_text}
use Rattle.statement_laws.proofs.Whole.{whole_shows}
use Rattle.number_laws.specs.NumberLaws.{HasNoBadNumber, NoNumberIsBad}

-- where one reading goes on to another, it has read
pub has_read : {A B F : Type 0} (r : Result A F) (f : A → Result B F) (b : B) → (r >> f) ≡ Ok b → (a : A) × (r ≡ Ok a) × (f a ≡ Ok b)
has_read (Ok a) f b e = (a, refl, e)
has_read (Err x) f b e = absurd (cc)

pub ok_same : {A F : Type 0} (x y : A) → ◌≡◌ {A = Result A F} (Ok x) (Ok y) → x ≡ y
ok_same x y e = cc

-- a test that lets a reading go on
if_read : {A F : Type 0} (b : Bool) (x : F) (r : Result A F) (a : A) → (if b then Err x else r) ≡ Ok a → r ≡ Ok a
if_read true x r a e = absurd (cc)
if_read false x r a e = e

module _ {M R : Type 0} (g : Grammar M R) where
  abbrev Good : R → Type 0
  Good = HasNoBadNumber g

  -- what a statement's tokens read as
  checked_good : (m : M) (ps : List Token) (rec : R) (bad : Option ℕ) (x : R × M) → whole (g.form m) (words ps) ≡ Some (rec, bad) → checked g m ps rec bad ≡ Ok x → Good x.0
  checked_good m ps rec None x form e =
      let p : R × Option ℕ = (rec, None) in
      let shown = whole_shows (g.form m) (words ps) p form in
      let y : R × M = (rec, g.after m rec) in
      let same : rec ≡ x.0 = ap (λ (z : R × M). z.0) (ok_same y x e) in
      rw (← same) (record { mode = m; fits = shown.1; good = sym shown.2 })
  checked_good m ps rec (Some left) x form e = absurd (cc)

  formed_good : (m : M) (ps : List Token) (o : Option (R × Option ℕ)) (x : R × M) → whole (g.form m) (words ps) ≡ o → formed g m ps o ≡ Ok x → Good x.0
  formed_good m ps None x form e = absurd (cc)
  formed_good m ps (Some y) x form e = checked_good m ps y.0 y.1 x form e

  unrepeated : (ps : List Token) (o : Option FaultCode) (rec : R) (m : M) (seen : List Key) (x : R × (M × List Key)) → unless_repeated g ps o rec m seen ≡ Ok x → rec ≡ x.0
  unrepeated ps None rec m seen x e = cc
  unrepeated ps (Some code) rec m seen x e = absurd (cc)

  one_good : (state : M × List Key) (ps : List Token) (x : R × (M × List Key)) → read_one g state ps ≡ Ok x → Good x.0
  one_good state ps x e =
      let form = has_read (read_form g state.0 ps) (λ x. unless_repeated g ps (repeats state.1 (g.key x.0)) x.0 x.1 state.1) x e in
      let same = unrepeated ps (repeats state.1 (g.key form.0.0)) form.0.0 form.0.1 state.1 x form.2 in
      rw (← same) (formed_good state.0 ps (whole (g.form state.0) (words ps)) form.0 refl form.1)

  -- at the end of a text there are none
  ended_none : (state : M × List Key) (n : ℕ) (o : Option FaultCode) (recs : List R) → ended g state n o ≡ Ok recs → recs ≡ []
  ended_none state n None recs e = cc
  ended_none state n (Some code) recs e = absurd (cc)

  may_none : (b : Bool) (state : M × List Key) (n : ℕ) (o : Option FaultCode) (f : Fault) (recs : List R) → (if b then ended g state n o else Err f) ≡ Ok recs → recs ≡ []
  may_none true state n o f recs e = ended_none state n o recs e
  may_none false state n o f recs e = absurd (cc)

  last_none : (state : M × List Key) (ps : List Token) (end : Result ℕ Fault) (recs : List R) → at_last g state ps end ≡ Ok recs → recs ≡ []
  last_none state ps (Err f) recs e = absurd (cc)
  last_none state [] (Ok n) recs e = may_none (g.may_end state.0) state n (g.lacks state.1) _ recs e
  last_none state (p ∷ ps) (Ok n) recs e = absurd (cc)

  good_on : (state : M × List Key) (before ps : List Token) (end : Result ℕ Fault) (recs : List R) → read_on g state before ps end ≡ Ok recs → All Good recs
  unfolding read_on
  good_on state before [] end recs e = rw (last_none state before end recs e) (All-nil Good)
  good_on state before (p ∷ ps) end recs e = ⊎_elim
      (λ (is : is_whole (g.ending state.0) (before ++ p ∷ []) ≡ true).
      let here = has_read (read_one g state (before ++ p ∷ [])) (λ x. (read_on g x.1 [] ps end >> λ later. Ok (x.0 ∷ later))) recs (rw is at e) in
      let later = has_read (read_on g here.0.1 [] ps end) (λ later. Ok (here.0.0 ∷ later)) recs here.2 in
      rw (← ok_same (here.0.0 ∷ later.0) recs later.2) (All-cons Good here.0.0 later.0 (one_good state (before ++ p ∷ []) here.0 here.1) (good_on here.0.1 [] ps end later.0 later.1)))
      (λ (more : is_whole (g.ending state.0) (before ++ p ∷ []) ≡ false). good_on state (before ++ p ∷ []) ps end recs (rw more at e))
      (cases (is_whole (g.ending state.0) (before ++ p ∷ [])))

  pub no_number_is_bad : NoNumberIsBad g
  unfolding read_text
  no_number_is_bad m text recs e =
      good_on (m, []) [] (tokens text).pieces (tokens text).end recs (if_read (nat_lt MAX_TEXT (length text)) _ (read_from g (m, []) (tokens text)) recs e)
