-- Whole statements read as they are spelled.
use Rattle.std.proofs.Common.{◌≡◌, ℕ, List, [], ◌∷◌, ◌++◌, Option, Some, refl, sym, ap, ◌∙◌, append-nil}
use Rattle.form_meanings.specs.Words.{Rest, start, ends}
use Rattle.form_meanings.proofs.Steps.{some_same, both_read, then_reads}
use Rattle.statement_model.specs.Form.{Form, read, spell, Fits, whole}
use Rattle.statement_model.specs.Grammar.{Grammar}
use Rattle.statement_laws.specs.FormLaws.{ReadsAsSpelled, FormsAreSpelled}

ends_where : {A : Type 0} (a : A) (r : Rest) (p : A × Option ℕ) → ends a r ≡ Some p → (r.words ≡ []) × ((a, r.bad) ≡ p)
ends_where {A = A} a r p e = elim r.words as (λ ws. ends a (record { words = ws; bad = r.bad }) ≡ Some p → (ws ≡ []) × ((a, r.bad) ≡ p)) [
  | [] ↦ λ e. let x : A × Option ℕ = (a, r.bad) in (refl, some_same x p e)
  | w ∷ ws ↦ λ e. absurd (cc)
] e

-- what reads is spelled so, and fits
pub whole_shows : {A : Type 0} (f : Form A) (ws : List (List ℕ)) (p : A × Option ℕ) → whole f ws ≡ Some p → (ws ≡ spell f p.0) × Fits f p.0 [] × (p.1 ≡ f.of.bad p.0 [])
whole_shows f ws p e =
    let a = both_read (read f (start ws)) (λ a. ends a.0 a.1) p e in
    let k = f.exact.shows (start ws) a.0 a.1 in
    let d = ends_where a.0.0 a.0.1 p a.2 in
    let words = d.0 in
    rw (← d.1) (k.words ∙ ap (λ (vs : List (List ℕ)). spell f a.0.0 ++ vs) words ∙ append-nil (spell f a.0.0), rw words at k.fits, k.bad ∙ ap (f.of.bad a.0.0) words)

whole_reads : {A : Type 0} (f : Form A) (a : A) → Fits f a [] → whole f (spell f a) ≡ Some (a, f.of.bad a [])
whole_reads {A = A} f a fits =
    let r2 : Rest = record { words = []; bad = f.of.bad a [] } in
    then_reads (read f (start (spell f a))) (λ a. ends a.0 a.1) (a, r2) (f.exact.reads (start (spell f a)) r2 a (record { words = sym (append-nil (spell f a)); fits = fits; bad = refl }))

pub reads_as_spelled : {A : Type 0} (f : Form A) → ReadsAsSpelled f
reads_as_spelled {A = A} f = (λ ws a bad e. let p : A × Option ℕ = (a, bad) in whole_shows f ws p e, whole_reads f)

pub forms_are_spelled : {M R : Type 0} (g : Grammar M R) → FormsAreSpelled g
forms_are_spelled g m = reads_as_spelled (g.form m)
