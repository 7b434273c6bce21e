-- What tables find among numbered statements, as what comes first among them.
use Rattle.std.proofs.Common.{◌≡◌, ◌≢◌, ◌≤◌, ◌+◌, ◌&&◌, ◌||◌, ℕ, Bool, true, false, cond, List, [], ◌∷◌, length, map, Option, Some, None, refl, sym, ap, ap₂, subst, ◌∙◌, ⊎_elim, inl, inr, arith}
use Rattle.std.specs.Prelude.{◌==◌, count_by, MatchOption}
use Rattle.std.specs.List.{list_any, zip}
use Rattle.std.specs.Option.{option_map}
use Rattle.std.proofs.lemmas.Bool.{cases_Bool, cases_eq, or_parts}
use Rattle.std.proofs.lemmas.List.{length-map}
use Rattle.std.proofs.lemmas.List.Sums.{sum_by-cons}
use Rattle.design_model.specs.declared.identifier.StmtId.{StmtId}
use Rattle.statement_model.specs.Tokens.{Token}
use Rattle.def_grammar.specs.Located.{located}
use Rattle.def_grammar.specs.Parts.{is_some}
use Rattle.def_grammar.specs.Records.{Record}
use Rattle.text_pieces.specs.Chunks.{AreOnce, IsAbsent}
use Rattle.text_pieces.specs.Statements.{look_up, statements_of}
use Rattle.design_tables.specs.Lookups.{Finds, FindsAll, is_number, numbers_one}
use Rattle.def_splice.specs.LookupViews.{first_where}
use Rattle.def_splice.proofs.SearchSteps.{said}
use Rattle.design_text.specs.DesignTexts.{Content, IsNumbered, numbers_of, statement_under, text_of}

pub same : (n : ℕ) → (n == n) ≡ true
same n = grind arith

pub differ : (a b : ℕ) → (a ≢ b) → (a == b) ≡ false
differ a b h = grind arith

fails : (a b : Bool) → b ≡ false → (a && b) ≡ false
fails true b h = h
fails false b h = refl

pub look_map : {X Y : Type 0} (f : X → Y) (id : StmtId) (ids : List StmtId) (xs : List X) → look_up id (zip ids (map f xs)) ≡ option_map f (look_up id (zip ids xs))
look_map f id [] xs = refl
look_map f id (i ∷ is) [] = refl
look_map f id (i ∷ is) (x ∷ xs) = elim (cases_Bool (i.0 == id.0)) [ inl is_it ↦ rw is_it refl | inr other ↦ rw other (look_map f id is xs) ]

abbrev Located : Type 0
Located = List (List Token × Record)

module _ (test : Record → Bool) where
  abbrev passes : StmtId × Record → Bool
  passes x = test x.1

  pub count_more : (r : Record) (rs : List Record) → count_by test (r ∷ rs) ≡ cond (test r) 1 0 + count_by test rs
  count_more r rs = sum_by-cons (λ x. cond (test x) 1 0) r rs

  pub count_one : (r : Record) (rs : List Record) → test r ≡ true → count_by test (r ∷ rs) ≡ 1 + count_by test rs
  count_one r rs is = count_more r rs ∙ ap (λ (b : Bool). cond b 1 0 + count_by test rs) is

  pub count_none : (r : Record) (rs : List Record) → test r ≡ false → count_by test (r ∷ rs) ≡ 0 + count_by test rs
  count_none r rs is = count_more r rs ∙ ap (λ (b : Bool). cond b 1 0 + count_by test rs) is

  -- a number that isn't one of these, and a test that none passes
  pub absent_number : (id : StmtId) (ids : List StmtId) (rs : List Record) → IsAbsent id ids → numbers_one test (zip ids rs) id ≡ false
  absent_number id [] rs h = refl
  absent_number id (x ∷ xs) [] h = refl
  absent_number id (x ∷ xs) (r ∷ rs) h = rw (differ id.0 x.0 h.0) (absent_number id xs rs h.1)

  none_passes : (id : StmtId) (ids : List StmtId) (rs : List Record) → count_by test rs ≡ 0 → numbers_one test (zip ids rs) id ≡ false
  none_passes id [] rs h = refl
  none_passes id (x ∷ xs) [] h = refl
  none_passes id (x ∷ xs) (r ∷ rs) h = elim (cases_Bool (test r)) [
    | inl is ↦ absurd (omega (arith, h, count_one r rs is))
    | inr not_so ↦
        ap₂ (λ (p q : Bool). p || q) (fails (is_number id x) (test r) not_so) (none_passes id xs rs (omega (arith, h, count_none r rs not_so)))
  ]

  -- where at most one passes, what has a number and passes is the first that does
  found_where : (id : StmtId) (ids : List StmtId) (xs : Located) → length ids ≡ length xs → AreOnce ids → count_by test (said xs) ≤ 1 → numbers_one test (zip ids (said xs)) id ≡ true
      → look_up id (zip ids xs) ≡ first_where test xs
  found_where id [] xs many once few h = absurd (cc)
  found_where id (i ∷ is) [] many once few h = absurd (cc)
  found_where id (i ∷ is) (x ∷ xs) many once few h =
      ⊎_elim
      (λ (e : i.0 ≡ id.0).
      let it : i ≡ id = ap (λ (k : ℕ). record { 0 = k }) e in
      let none = absent_number id is (said xs) (subst (λ (y : StmtId). IsAbsent y is) it once.0) in
      elim (cases_Bool (test x.1)) [
        | inl so ↦ rw (e, same id.0, so) refl
        | inr not_so ↦
            let never = ap₂ (λ (p q : Bool). p || q) (fails (is_number id i) (test x.1) not_so) none in
            let e2 = sym h ∙ never in
            absurd (cc)
      ])
      (λ (other : i.0 ≢ id.0).
      let later : numbers_one test (zip is (said xs)) id ≡ true = rw (differ id.0 i.0 (λ e. other (sym e))) at h in
      elim (cases_Bool (test x.1)) [
        | inl so ↦
            let none = none_passes id is (said xs) (omega (arith, few, count_one x.1 (said xs) so)) in
            let e2 = sym later ∙ none in
            absurd (cc)
        | inr not_so ↦
            rw (differ i.0 id.0 other, not_so) (found_where id is xs (omega (arith, many)) once.1 (omega (arith, few, count_none x.1 (said xs) not_so)) later)
      ])
      (cases_eq i.0 id.0)

  none_where : (ids : List StmtId) (xs : Located) → length ids ≡ length xs → list_any passes (zip ids (said xs)) ≡ false → first_where test xs ≡ None
  none_where [] [] many h = refl
  none_where [] (x ∷ xs) many h = absurd (omega (arith, many))
  none_where (i ∷ is) [] many h = refl
  none_where (i ∷ is) (x ∷ xs) many h =
      let both = or_parts (test x.1) (list_any passes (zip is (said xs))) h in
      rw both.0 (none_where is xs (omega (arith, many)) both.1)

  -- what one passes, one with its number does
  pub any_zip : (ids : List StmtId) (rs : List Record) → length ids ≡ length rs → list_any passes (zip ids rs) ≡ list_any test rs
  any_zip [] [] many = refl
  any_zip [] (r ∷ rs) many = absurd (omega (arith, many))
  any_zip (i ∷ is) [] many = absurd (omega (arith, many))
  any_zip (i ∷ is) (r ∷ rs) many = ap (λ (b : Bool). test r || b) (any_zip is rs (omega (arith, many)))

  pub or_true : (a b : Bool) → b ≡ true → (a || b) ≡ true
  or_true true b is = refl
  or_true false b is = is

  pub any_numbered : (id : StmtId) (xs : List (StmtId × Record)) → numbers_one test xs id ≡ true → list_any passes xs ≡ true
  any_numbered id [] h = h
  any_numbered id (x ∷ xs) h = elim (cases_Bool (test x.1)) [
    | inl so ↦ rw so refl
    | inr not_so ↦
        let never = fails (is_number id x.0) (test x.1) not_so in
        rw not_so (any_numbered id xs (rw never at h))
  ]

  pub has_number : (xs : List (StmtId × Record)) → list_any passes xs ≡ true → (id : StmtId) × (numbers_one test xs id ≡ true)
  has_number [] h = absurd (cc)
  has_number (x ∷ xs) h = elim (cases_Bool (test x.1)) [
    | inl so ↦ (x.0, rw (same x.0.0, so) refl)
    | inr not_so ↦ let later = has_number xs (rw not_so at h) in (later.0, or_true (is_number later.0 x.0 && test x.1) (numbers_one test xs later.0) later.1)
  ]

  -- all numbers, of which the first is asked: one passes where there is one
  first_none : (xs : List (StmtId × Record)) → FindsAll test xs [] → false ≡ list_any passes xs
  first_none xs all = elim (cases_Bool (list_any passes xs)) [
    | inl so ↦ let n = has_number xs so in let e = all n.0 ∙ n.1 in absurd (cc)
    | inr not_so ↦ sym not_so
  ]

  first_some : (xs : List (StmtId × Record)) (id : StmtId) (ids : List StmtId) → FindsAll test xs (id ∷ ids) → true ≡ list_any passes xs
  first_some xs id ids all =
      let here : list_any (is_number id) (id ∷ ids) ≡ true = rw (same id.0) refl in
      sym (any_numbered id xs (sym (all id) ∙ here))

  pub first_is : (xs : List (StmtId × Record)) (old new : List StmtId) (o : Option StmtId) → FindsAll test xs old → MatchOption o ((old ≡ []) × (new ≡ [])) (λ id. old ≡ id ∷ new) → is_some o ≡ list_any passes xs
  first_is xs old new None all none = first_none xs (subst (FindsAll test xs) none.0 all)
  first_is xs old new (Some id) all is = first_some xs id new (subst (FindsAll test xs) is all)

  module _ (c : Content) (design : List Record) (k : IsNumbered c design) where
    abbrev statements : Located
    statements = statements_of (text_of c)

    as_said : count_by test design ≡ count_by test (said statements)
    as_said = ap (count_by test) (sym k.said)

    -- what is found by its number is the first that passes
    pub found_is : (id : StmtId) → count_by test design ≤ 1 → Finds test (zip (numbers_of c) design) (Some id) → statement_under c id ≡ first_where test (located (text_of c) design)
    found_is id few finds =
        let numbered : numbers_one test (zip (numbers_of c) (said statements)) id ≡ true = ap (λ (rs : List Record). numbers_one test (zip (numbers_of c) rs) id) k.said ∙ finds in
        found_where id (numbers_of c) statements k.many k.once (omega (arith, few, as_said)) numbered ∙ ap (first_where test) (sym k.located)

    pub none_is : Finds test (zip (numbers_of c) design) None → None ≡ first_where test (located (text_of c) design)
    none_is finds =
        let none : list_any passes (zip (numbers_of c) (said statements)) ≡ false = ap (λ (rs : List Record). list_any passes (zip (numbers_of c) rs)) k.said ∙ finds in
        sym (ap (first_where test) k.located ∙ none_where (numbers_of c) statements k.many none)

pub many_are : (c : Content) (design : List Record) → IsNumbered c design → length (numbers_of c) ≡ length design
many_are c design k = k.many ∙ sym (length-map (statements_of (text_of c)) (λ (x : List Token × Record). x.1)) ∙ ap length k.said
