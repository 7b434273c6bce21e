-- The statements of a text with what they say, one after the other.
use Rattle.std.proofs.Common.{◌≡◌, ℕ, List, [], ◌∷◌, ◌++◌, refl, ap, ◌∙◌, inl, inr, Option, Some, None, Ok, Err}
use Rattle.std.proofs.lemmas.Bool.{cases_Bool}
use Rattle.design_model.specs.declared.fault.Fault.{Fault}
use Rattle.form_meanings.proofs.Steps.{some_same}
use Rattle.statement_model.specs.Tokens.{Token, Lexed}
use Rattle.statement_model.specs.Boundaries.{is_whole, cut, statement_at, statement_from}
use Rattle.statement_model.specs.Grammar.{Grammar}
use Rattle.statement_model.specs.Reading.{read_form, read_at, read_found}
use Rattle.statement_reader.specs.Located.{in_front, located_on, located_from}
use Rattle.statement_reader.proofs.Steps.{is_cut, form_read, form_fault}

module _ {M R : Type 0} (g : Grammar M R) where
  located_cut : (m : M) (ps before s later : List Token) → cut (g.ending m) before ps ≡ Some (s, later) → located_on g m before ps ≡ in_front g s (read_form g m s) (λ after. located_on g after [] later)
  unfolding located_on cut
  located_cut m [] before s later h = absurd (cc)
  located_cut m (p ∷ ps) before s later h = elim (cases_Bool (is_whole (g.ending m) (before ++ p ∷ []))) [
    | inl whole ↦
        let k = rw whole at h in
        let x : List Token × List Token = (before ++ p ∷ [], ps) in
        let y : List Token × List Token = (s, later) in
        rw whole (ap (λ (z : List Token × List Token). in_front g z.0 (read_form g m z.0) (λ after. located_on g after [] z.1)) (some_same x y k))
    | inr more ↦ let k = rw more at h in rw more (located_cut m ps (before ++ p ∷ []) s later k)
  ]

  none_located : (m : M) (ps before : List Token) → cut (g.ending m) before ps ≡ None → located_on g m before ps ≡ []
  unfolding located_on cut
  none_located m [] before h = refl
  none_located m (p ∷ ps) before h = elim (cases_Bool (is_whole (g.ending m) (before ++ p ∷ []))) [
    | inl whole ↦ let k = rw whole at h in absurd (cc)
    | inr more ↦ let k = rw more at h in rw more (none_located m ps (before ++ p ∷ []) k)
  ]

  pub located_first : (m after : M) (l left : Lexed) (ps : List Token) (rec : R) → statement_at (g.ending m) l ≡ Ok (Some (ps, left)) → read_at g m l ≡ Ok (Some (rec, after, left))
      → located_from g m l ≡ (ps, rec) ∷ located_from g after left
  located_first m after l left ps rec at read =
      located_cut m l.pieces [] ps left.pieces (is_cut (g.ending m) l left ps at).0 ∙ rw (form_read g m after l left ps rec at read) refl

  pub located_ends : (m : M) (l : Lexed) (n : ℕ) → l ≡ record { pieces = []; end = Ok n } → located_from g m l ≡ []
  unfolding located_on
  located_ends m l n is = rw is refl

  fault_located : (m : M) (l : Lexed) (f : Fault) (found : Option (List Token × List Token)) → cut (g.ending m) [] l.pieces ≡ found → read_found g m l (statement_from found l) ≡ Err f
      → located_from g m l ≡ []
  fault_located m l f None c h = none_located m l.pieces [] c
  fault_located m l f (Some x) c h =
      located_cut m l.pieces [] x.0 x.1 c ∙ rw (form_fault g (record { pieces = x.1; end = l.end }) (read_form g m x.0) f h) refl

  pub located_fault : (m : M) (l : Lexed) (f : Fault) → read_at g m l ≡ Err f → located_from g m l ≡ []
  unfolding read_at statement_at
  located_fault m l f h = fault_located m l f (cut (g.ending m) [] l.pieces) refl h
