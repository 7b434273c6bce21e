-- Tokens that are cut into a statement and those after it.
use Rattle.std.proofs.Common.{◌≡◌, ◌<◌, ℕ, List, [], ◌∷◌, ◌++◌, length, Some, refl, sym, ap, ◌∙◌, ⊎_elim, append_assoc, arith, length-append}
use Rattle.std.proofs.lemmas.Bool.{cases_Bool as cases}
use Rattle.form_meanings.proofs.Steps.{some_same}
use Rattle.statement_model.specs.Tokens.{Token}
use Rattle.statement_model.specs.Boundaries.{Ending, is_whole, cut}

module _ (e : List ℕ → Ending) where
  -- what is cut, and what is left, are all tokens
  pub cut_joins : (begun ps s rest : List Token) → cut e begun ps ≡ Some (s, rest) → begun ++ ps ≡ s ++ rest
  unfolding cut
  cut_joins begun [] s rest h = absurd (cc)
  cut_joins begun (p ∷ ps) s rest h = ⊎_elim
      (λ whole.
      let there = rw whole at h in
      let x : List Token × List Token = (begun ++ p ∷ [], ps) in
      let y : List Token × List Token = (s, rest) in
      let same = some_same x y there in
      sym (append_assoc begun (p ∷ []) ps) ∙ ap (λ (z : List Token × List Token). z.0 ++ z.1) same)
      (λ more. let there = rw more at h in sym (append_assoc begun (p ∷ []) ps) ∙ cut_joins (begun ++ p ∷ []) ps s rest there)
      (cases (is_whole e (begun ++ p ∷ [])))

  -- so it is cut where more follows
  pub cut_more : (begun ps s rest more : List Token) → cut e begun ps ≡ Some (s, rest) → cut e begun (ps ++ more) ≡ Some (s, rest ++ more)
  unfolding cut
  cut_more begun [] s rest more h = absurd (cc)
  cut_more begun (p ∷ ps) s rest more h = ⊎_elim
      (λ whole.
      let there = rw whole at h in
      let x : List Token × List Token = (begun ++ p ∷ [], ps) in
      let y : List Token × List Token = (s, rest) in
      let same = some_same x y there in
      rw whole (ap (λ (z : List Token × List Token). Some (z.0, z.1 ++ more)) same))
      (λ no. let there = rw no at h in rw no (cut_more (begun ++ p ∷ []) ps s rest more there))
      (cases (is_whole e (begun ++ p ∷ [])))

  shorter : (begun ps s left : List Token) → cut e begun ps ≡ Some (s, left) → length left < length ps
  unfolding cut
  shorter begun [] s left h = absurd (cc)
  shorter begun (p ∷ ps) s left h = ⊎_elim
      (λ whole.
      let there = rw whole at h in
      let x : List Token × List Token = (begun ++ p ∷ [], ps) in
      let y : List Token × List Token = (s, left) in
      let same : ps ≡ left = ap (λ (z : List Token × List Token). z.1) (some_same x y there) in
      rw (← same) (omega arith))
      (λ no. let there = rw no at h in let less = shorter (begun ++ p ∷ []) ps s left there in omega (arith, less))
      (cases (is_whole e (begun ++ p ∷ [])))

  no_more : (qs rest : List Token) → qs ++ rest ≡ rest → qs ≡ []
  no_more [] rest h = refl
  no_more (q ∷ qs) rest h = let long = ap (λ (z : List Token). length z) h in absurd (omega (arith, long, length-append qs rest))

  -- and by itself
  own : (begun qs rest : List Token) → cut e begun (qs ++ rest) ≡ Some (begun ++ qs, rest) → cut e begun qs ≡ Some (begun ++ qs, [])
  unfolding cut
  own begun [] rest h = let less = shorter begun rest (begun ++ []) rest h in absurd (omega (arith, less))
  own begun (p ∷ qs) rest h = ⊎_elim
      (λ whole.
      let there = rw whole at h in
      let x : List Token × List Token = (begun ++ p ∷ [], qs ++ rest) in
      let y : List Token × List Token = (begun ++ p ∷ qs, rest) in
      let none = no_more qs rest (ap (λ (z : List Token × List Token). z.1) (some_same x y there)) in
      rw (whole, none) refl)
      (λ no.
      let there = rw no at h in
      let longer = append_assoc begun (p ∷ []) qs in
      rw no (own (begun ++ p ∷ []) qs rest (there ∙ ap (λ (z : List Token). Some (z, rest)) (sym longer)) ∙ ap (λ (z : List Token). Some (z, [])) longer))
      (cases (is_whole e (begun ++ p ∷ [])))

  pub cut_own : (s rest : List Token) → cut e [] (s ++ rest) ≡ Some (s, rest) → cut e [] s ≡ Some (s, [])
  cut_own s rest h = own [] s rest h
