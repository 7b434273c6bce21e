-- The clause that places a component, among its clauses.
use Rattle.std.proofs.Common.{◌≡◌, ℕ, suc, ◌+◌, true, false, not, List, [], ◌∷◌, ◌++◌, length, drop, Some, None, arith, refl, sym, ap, ap₂, ◌∙◌, ⊎_elim}
use Rattle.std.proofs.lemmas.Bool.{cases_Bool as cases}
use Rattle.std.proofs.lemmas.List.Sums.{take_while-cons}
use Rattle.def_grammar.specs.Components.{Clause, is_placing}
use Rattle.def_grammar.specs.Placing.{placing, before_placing, after_placing, with_placing}

-- where the first clause isn't the one, it stands before it
before_more : (c : Clause) (cs : List Clause) → is_placing c ≡ false → before_placing (c ∷ cs) ≡ c ∷ before_placing cs
before_more c cs other = take_while-cons (λ (d : Clause). not (is_placing d)) c cs ∙ rw other refl

before_none : (c : Clause) (cs : List Clause) → is_placing c ≡ true → before_placing (c ∷ cs) ≡ []
before_none c cs is = take_while-cons (λ (d : Clause). not (is_placing d)) c cs ∙ rw is refl

drop_more : (c : Clause) (cs : List Clause) (n : ℕ) → drop (suc n + 1) (c ∷ cs) ≡ drop (n + 1) cs
drop_more c cs n = let sum : suc n + 1 ≡ suc (n + 1) = omega arith in ap (λ (k : ℕ). drop k (c ∷ cs)) sum

after_more : (c : Clause) (cs : List Clause) → is_placing c ≡ false → after_placing (c ∷ cs) ≡ after_placing cs
after_more c cs other = ap (λ (before : List Clause). drop (length before + 1) (c ∷ cs)) (before_more c cs other) ∙ drop_more c cs (length (before_placing cs))

after_here : (c : Clause) (cs : List Clause) → is_placing c ≡ true → after_placing (c ∷ cs) ≡ cs
after_here c cs is = ap (λ (before : List Clause). drop (length before + 1) (c ∷ cs)) (before_none c cs is)

some_placing : (c d : Clause) → Some c ≡ Some d → c ≡ d
some_placing c d e = cc

with_parts : (c : Clause) (xs ys ds es : List Clause) → xs ≡ ys → ds ≡ es → xs ++ c ∷ ds ≡ ys ++ c ∷ es
with_parts c xs ys ds es e f = ap₂ (λ (before after : List Clause). before ++ c ∷ after) e f

-- the clauses around it are all others
pub around : (cs : List Clause) (old : Clause) → placing cs ≡ Some old → cs ≡ before_placing cs ++ old ∷ after_placing cs
around [] old e = absurd (cc)
around (c ∷ cs) old e = ⊎_elim
    (λ (is : is_placing c ≡ true).
    let h = rw is at e in
    ap (λ (d : Clause). d ∷ cs) (some_placing c old h) ∙ sym (with_parts old (before_placing (c ∷ cs)) [] (after_placing (c ∷ cs)) cs (before_none c cs is) (after_here c cs is)))
    (λ (other : is_placing c ≡ false).
    let h = rw other at e in
    ap (λ (ds : List Clause). c ∷ ds) (around cs old h)
    ∙ sym (with_parts old (before_placing (c ∷ cs)) (c ∷ before_placing cs) (after_placing (c ∷ cs)) (after_placing cs) (before_more c cs other) (after_more c cs other)))
    (cases (is_placing c))

-- where there is none, all stand before it
pub none_around : (cs : List Clause) → placing cs ≡ None → (before_placing cs ≡ cs) × (after_placing cs ≡ [])
none_around [] e = (refl, refl)
none_around (c ∷ cs) e = ⊎_elim
    (λ (is : is_placing c ≡ true). let h = rw is at e in absurd (cc))
    (λ (other : is_placing c ≡ false).
    let h = rw other at e in
    let later = none_around cs h in
    (before_more c cs other ∙ ap (λ (ds : List Clause). c ∷ ds) later.0, after_more c cs other ∙ later.1))
    (cases (is_placing c))

-- the new clause in its place, or last
pub placed_last : (new : Clause) (cs : List Clause) → placing cs ≡ None → with_placing new cs ≡ cs ++ new ∷ []
placed_last new cs none = let n = none_around cs none in with_parts new (before_placing cs) cs (after_placing cs) [] n.0 n.1
