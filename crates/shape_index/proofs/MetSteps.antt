-- A fold over what is met, step by step.
use Rattle.std.proofs.Common.{◌≡◌, ◌≤◌, ◌+◌, ℕ, Bool, true, false, cond, List, [], ◌∷◌, length, filter, refl, sym, ap, ◌∙◌, arith}
use Rattle.std.specs.Prelude.{count_by}
use Rattle.std.specs.List.{FoldsTo}
use Rattle.std.proofs.lemmas.List.Sums.{sum_by-cons}

module _ {B E : Type 0} (R : B → E → B → Type 0) (p : E → Bool) where
  pub met_yes : (all : List E) (e : E) (left : List E) (a b last : B) → all ≡ e ∷ left → p e ≡ true → R a e b → FoldsTo R b (filter p left) last → FoldsTo R a (filter p all) last
  met_yes all e left a b last at t r k = rw (at, t) (b, r, k)

  pub met_no : (all : List E) (e : E) (left : List E) (a last : B) → all ≡ e ∷ left → p e ≡ false → FoldsTo R a (filter p left) last → FoldsTo R a (filter p all) last
  met_no all e left a last at t k = rw (at, t) k

module _ {E : Type 0} (p : E → Bool) where
  -- at most one fewer is left behind an entry
  pub met_fewer : (all : List E) (e : E) (left : List E) → all ≡ e ∷ left → length (filter p all) ≤ 1 + length (filter p left)
  met_fewer all e left at =
      rw at (elim (p e) as (λ b. length (cond b (e ∷ filter p left) (filter p left)) ≤ 1 + length (filter p left)) [
        | true ↦ omega arith
        | false ↦ omega arith
      ])

  pub counted : (es : List E) → count_by p es ≡ length (filter p es)
  counted [] = refl
  counted (e ∷ es) =
      elim (p e) as (λ b. p e ≡ b → count_by p (e ∷ es) ≡ length (cond b (e ∷ filter p es) (filter p es))) [
        | true ↦ λ t. let one : cond {A = ℕ} (p e) 1 0 ≡ 1 = ap (λ (b : Bool). cond {A = ℕ} b 1 0) t in omega (arith, sum_by-cons (λ (x : E). cond {A = ℕ} (p x) 1 0) e es, one, counted es)
        | false ↦ λ t. let none : cond {A = ℕ} (p e) 1 0 ≡ 0 = ap (λ (b : Bool). cond {A = ℕ} b 1 0) t in omega (arith, sum_by-cons (λ (x : E). cond {A = ℕ} (p x) 1 0) e es, none, counted es)
      ] refl
