-- Numbers of statements that may pass a test, each of which is asked whether it does.
use Rattle.std.proofs.Common.{◌≡◌, ◌≢◌, ◌&&◌, ℕ, Bool, true, false, List, [], ◌∷◌, length, refl, sym, ap, subst, ◌∙◌, ⊎_elim, inl, inr, arith}
use Rattle.std.specs.List.{list_any, zip}
use Rattle.std.proofs.lemmas.Bool.{cases_Bool, cases_eq}
use Rattle.design_model.specs.declared.identifier.StmtId.{StmtId}
use Rattle.statement_model.specs.Tokens.{Token}
use Rattle.def_grammar.specs.Records.{Record}
use Rattle.text_pieces.specs.Chunks.{AreOnce, IsAbsent}
use Rattle.text_pieces.specs.Statements.{look_up, statements_of}
use Rattle.design_tables.specs.Lookups.{FindsAll, is_number, numbers_one}
use Rattle.def_splice.proofs.SearchSteps.{said}
use Rattle.design_text.specs.DesignTexts.{Content, IsNumbered, numbers_of, says_one, statement_under, text_of}
use Rattle.design_text.proofs.FoundStatements.{absent_number, differ, or_true, same}

abbrev Located : Type 0
Located = List (List Token × Record)

-- one of those of which a test holds
some_true : {X : Type 0} (f : X → Bool) (xs : List X) → list_any f xs ≡ true → (x : X) × (f x ≡ true)
some_true f [] h = absurd (cc)
some_true f (x ∷ xs) h = elim (cases_Bool (f x)) [ inl is ↦ (x, is) | inr other ↦ some_true f xs (rw other at h) ]

any_true : (f : StmtId → Bool) (id : StmtId) (ids : List StmtId) → list_any (is_number id) ids ≡ true → f id ≡ true → list_any f ids ≡ true
any_true f id [] h is = h
any_true f id (x ∷ xs) h is =
    ⊎_elim
    (λ (e : id.0 ≡ x.0). let it : id ≡ x = ap (λ (k : ℕ). record { 0 = k }) e in let here : f x ≡ true = subst (λ (y : StmtId). f y ≡ true) it is in rw here refl)
    (λ (other : id.0 ≢ x.0). or_true (λ r. false) (f x) (list_any f xs) (any_true f id xs (rw (differ id.0 x.0 other) at h) is))
    (cases_eq id.0 x.0)

module _ (test : Record → Bool) where
  abbrev asked : List StmtId → Located → StmtId → Bool
  asked ids xs id = says_one test (look_up id (zip ids xs))

  look_there : (id : StmtId) (ids : List StmtId) (xs : Located) → asked ids xs id ≡ true → list_any test (said xs) ≡ true
  look_there id [] xs h = absurd (cc)
  look_there id (i ∷ is) [] h = absurd (cc)
  look_there id (i ∷ is) (x ∷ xs) h =
      ⊎_elim
      (λ (e : i.0 ≡ id.0). let here : test x.1 ≡ true = rw (e, same id.0) at h in rw here refl)
      (λ (other : i.0 ≢ id.0). or_true test (test x.1) (list_any test (said xs)) (look_there id is xs (rw (differ i.0 id.0 other) at h)))
      (cases_eq i.0 id.0)

  module _ (wide : Record → Bool) (passes : (r : Record) → test r ≡ true → wide r ≡ true) where
    -- one that passes has a number, by which it is found
    one_there : (ids : List StmtId) (xs : Located) → length ids ≡ length xs → AreOnce ids → list_any test (said xs) ≡ true → (id : StmtId) × (numbers_one wide (zip ids (said xs)) id ≡ true) × (asked ids xs id ≡ true)
    one_there [] [] many once h = absurd (cc)
    one_there [] (x ∷ xs) many once h = absurd (omega (arith, many))
    one_there (i ∷ is) [] many once h = absurd (cc)
    one_there (i ∷ is) (x ∷ xs) many once h = elim (cases_Bool (test x.1)) [
      | inl so ↦ (i, rw (same i.0, passes x.1 so) refl, rw (same i.0) so)
      | inr not_so ↦
          let f = one_there is xs (omega (arith, many)) once.1 (rw not_so at h) in
          let apart : i.0 ≢ (f.0).0 = λ e.
          let it : i ≡ f.0 = ap (λ (k : ℕ). record { 0 = k }) e in
          let none = absent_number wide f.0 is (said xs) (subst (λ (y : StmtId). IsAbsent y is) it once.0) in
          let e2 = sym f.1 ∙ none in
          absurd (cc) in
          (f.0, or_true wide (is_number f.0 i && wide x.1) (numbers_one wide (zip is (said xs)) f.0) f.1, rw (differ i.0 (f.0).0 apart) f.2)
    ]

    all_asked : (ids : List StmtId) (xs : Located) (found : List StmtId) → length ids ≡ length xs → AreOnce ids → FindsAll wide (zip ids (said xs)) found → list_any (asked ids xs) found ≡ list_any test (said xs)
    all_asked ids xs found many once all = elim (cases_Bool (list_any (asked ids xs) found)) [
      | inl so ↦ let f = some_true (asked ids xs) found so in so ∙ sym (look_there f.0 ids xs f.1)
      | inr not_so ↦ elim (cases_Bool (list_any test (said xs))) [
        | inl there ↦
            let f = one_there ids xs many once there in
            let e = sym (any_true (asked ids xs) f.0 found (all f.0 ∙ f.1) f.2) ∙ not_so in
            absurd (cc)
        | inr none ↦ not_so ∙ sym none
      ]
    ]

    pub numbers_asked : (c : Content) (design : List Record) (k : IsNumbered c design) (found : List StmtId) → FindsAll wide (zip (numbers_of c) design) found → list_any (λ id. says_one test (statement_under c id)) found ≡ list_any test design
    numbers_asked c design k found all =
        all_asked (numbers_of c) (statements_of (text_of c)) found k.many k.once (subst (λ (rs : List Record). FindsAll wide (zip (numbers_of c) rs) found) (sym k.said) all)
        ∙ ap (list_any test) k.said
