-- What holds of each statement that reads holds of each record of a text.
use Rattle.std.proofs.Common.{◌≡◌, ℕ, Bool, true, false, List, [], ◌∷◌, ◌++◌, Option, Some, None, Result, Ok, Err, refl, ap, subst, ⊎_elim, nat_lt, length, if◌then◌else◌}
use Rattle.std.proofs.lemmas.Bool.{cases_Bool as cases}
use Rattle.design_model.specs.declared.TheConstants.{MAX_TEXT}
use Rattle.design_model.specs.declared.fault.Fault.{Fault}
use Rattle.design_model.specs.declared.fault.FaultCode.{FaultCode}
use Rattle.statement_model.specs.Tokens.{Token, tokens}
use Rattle.statement_model.specs.Boundaries.{words, is_whole}
use Rattle.statement_model.specs.Folds.{◌>>◌}
use Rattle.statement_model.specs.Form.{whole}
use Rattle.statement_model.specs.Grammar.{Key, Grammar}
use Rattle.statement_model.specs.Reading.{with_key, formed, read_form, repeats, unless_repeated, read_one, ended, at_last, read_on, read_text}

-- it holds of each in a list
abbrev pub Each : {R : Type 0} → (R → Type 0) → List R → Type 0
Each P [] = Unit {0}
Each P (x ∷ xs) = P x × Each P xs

ok_same : {A : Type 0} (x y : A) → ◌≡◌ {A = Result A Fault} (Ok x) (Ok y) → x ≡ y
ok_same x y e = cc

module _ {M R : Type 0} (g : Grammar M R) (P : R → Type 0) (holds : (m : M) (ws : List (List ℕ)) (rec : R) → whole (g.form m) ws ≡ Some (rec, None) → P rec) where
  abbrev State : Type 0
  State = M × List Key

  of_form : (m : M) (ps : List Token) (o : Option (R × Option ℕ)) (x : R × M) → whole (g.form m) (words ps) ≡ o → formed g m ps o ≡ Ok x → P x.0
  of_form m ps None x is e = absurd (cc)
  of_form m ps (Some (rec, None)) x is e =
      let made : R × M = (rec, g.after m rec) in
      subst P (ap (λ (z : R × M). z.0) (ok_same made x e)) (holds m (words ps) rec is)
  of_form m ps (Some (rec, Some left)) x is e = absurd (cc)

  not_repeated : (ps : List Token) (again : Option FaultCode) (rec : R) (m : M) (seen : List Key) (x : R × State) → P rec → unless_repeated g ps again rec m seen ≡ Ok x → P x.0
  not_repeated ps None rec m seen x of_rec e =
      let made : R × State = (rec, (m, with_key (g.key rec) seen)) in
      subst P (ap (λ (z : R × State). z.0) (ok_same made x e)) of_rec
  not_repeated ps (Some code) rec m seen x of_rec e = absurd (cc)

  of_read : (state : State) (ps : List Token) (r : Result (R × M) Fault) (x : R × State) → ((y : R × M) → r ≡ Ok y → P y.0)
      → (r >> λ y. unless_repeated g ps (repeats state.1 (g.key y.0)) y.0 y.1 state.1) ≡ Ok x → P x.0
  of_read state ps (Ok y) x of_y e = not_repeated ps (repeats state.1 (g.key y.0)) y.0 y.1 state.1 x (of_y y refl) e
  of_read state ps (Err f) x of_y e = absurd (cc)

  of_one : (state : State) (ps : List Token) (x : R × State) → read_one g state ps ≡ Ok x → P x.0
  of_one state ps x e = of_read state ps (read_form g state.0 ps) x (λ y is. of_form state.0 ps (whole (g.form state.0) (words ps)) y refl is) e

  last_is_none : (state : State) (n : ℕ) (lacks : Option FaultCode) (recs : List R) → ended g state n lacks ≡ Ok recs → Each P recs
  last_is_none state n None recs e = subst (Each P) (ok_same [] recs e) tt
  last_is_none state n (Some code) recs e = absurd (cc)

  at_end : (state : State) (n : ℕ) (may : Bool) (recs : List R) (f : Fault) → (if may then ended g state n (g.lacks state.1) else Err f) ≡ Ok recs → Each P recs
  at_end state n true recs f e = last_is_none state n (g.lacks state.1) recs e
  at_end state n false recs f e = absurd (cc)

  of_last : (state : State) (ps : List Token) (end : Result ℕ Fault) (recs : List R) → at_last g state ps end ≡ Ok recs → Each P recs
  of_last state ps (Err f) recs e = absurd (cc)
  of_last state (p ∷ ps) (Ok n) recs e = absurd (cc)
  of_last state [] (Ok n) recs e = at_end state n (g.may_end state.0) recs _ e

  of_later : (x : R × State) (later : Result (List R) Fault) (recs : List R) → P x.0 → ((rs : List R) → later ≡ Ok rs → Each P rs) → (later >> λ rs. Ok (x.0 ∷ rs)) ≡ Ok recs → Each P recs
  of_later x (Ok rs) recs of_x of_rs e = let made : List R = x.0 ∷ rs in subst (Each P) (ok_same made recs e) (of_x, of_rs rs refl)
  of_later x (Err f) recs of_x of_rs e = absurd (cc)

  of_next : (r : Result (R × State) Fault) (later : State → Result (List R) Fault) (recs : List R) → ((x : R × State) → r ≡ Ok x → P x.0)
      → ((state : State) (rs : List R) → later state ≡ Ok rs → Each P rs)
      → (r >> λ x. (later x.1 >> λ rs. Ok (x.0 ∷ rs))) ≡ Ok recs → Each P recs
  of_next (Ok x) later recs of_x of_rs e = of_later x (later x.1) recs (of_x x refl) (of_rs x.1) e
  of_next (Err f) later recs of_x of_rs e = absurd (cc)

  of_all : (state : State) (begun ps : List Token) (end : Result ℕ Fault) (recs : List R) → read_on g state begun ps end ≡ Ok recs → Each P recs
  unfolding read_on
  of_all state begun [] end recs e = of_last state begun end recs e
  of_all state begun (p ∷ ps) end recs e = ⊎_elim
      (λ whole. of_next (read_one g state (begun ++ p ∷ [])) (λ after. read_on g after [] ps end) recs (of_one state (begun ++ p ∷ [])) (λ after rs is. of_all after [] ps end rs is) (rw whole at e))
      (λ more. of_all state (begun ++ p ∷ []) ps end recs (rw more at e))
      (cases (is_whole (g.ending state.0) (begun ++ p ∷ [])))

  pub each_record : (m : M) (text : List ℕ) (recs : List R) → read_text g m text ≡ Ok recs → Each P recs
  unfolding read_text
  each_record m text recs e = ⊎_elim
      (λ long. absurd (wrong (rw long at e)))
      (λ short. of_all (m, []) [] (tokens text).pieces (tokens text).end recs (rw short at e))
      (cases (nat_lt MAX_TEXT (length text))) where
        wrong : {A : Type 0} {f : Fault} {a : A} → ◌≡◌ {A = Result A Fault} (Err f) (Ok a) → ⊥
        wrong e = cc
