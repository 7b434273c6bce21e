-- Adding what a list of statements defines, statement by statement.
use Rattle.std.proofs.Common.{◌≡◌, ℕ, ◌+◌, ◌<◌, ◌≤◌, List, ◌∷◌, map, length, get_or, drop, refl, sym, ap, ◌∙◌, Option, Some, None, ◌-◌, suc, take, add-one, drop-cons}
use Rattle.std.proofs.Math.ListN.{drop_of_length-le}
use Rattle.std.proofs.lemmas.List.{take_rest}
use Rattle.form_meanings.specs.Firsts.{front, headed, with_all, with_first}
use Rattle.cell_library.specs.Naming.{name_of}
use Rattle.cell_library.proofs.NamedLemmas.{first_seen}

-- what is left at a place is what stands there, and what is left after it
pub split_at : {S : Type 0} (ss : List S) (i : ℕ) (s : S) → i < length ss → s ≡ get_or ss i s → drop i ss ≡ s ∷ drop (i + 1) ss
split_at ss i s below here = rw (add-one) (drop-cons ss i s below ∙ ap (λ x. x ∷ drop (suc i) ss) (sym here))

module _ {S R B D C : Type 0} (see : S → R) (view : List ℕ × D → C) (name_in : C → List ℕ) (header : R → Option (List ℕ)) (inner : R → Option B) (define : List ℕ × List B → C) where
  -- definitions so far, and what statements define
  abbrev pub all_with : List (List ℕ × D) → List S → List C
  all_with es ss = with_all name_in (map view es) (map define (headed header inner (map see ss)))

  pub at_end : (ss : List S) (i : ℕ) (es : List (List ℕ × D)) → length ss ≤ i → all_with es (drop i ss) ≡ map view es
  unfolding headed with_all
  at_end ss i es above = rw (drop_of_length-le ss above) refl

  none_front : (s : S) (ss : List S) (es : List (List ℕ × D)) → header (see s) ≡ None → all_with es ss ≡ all_with es (s ∷ ss)
  unfolding headed
  none_front s ss es h = rw (h) refl

  module _ (named_so : (e : List ℕ × D) → name_in (view e) ≡ e.0) where
    added_front : (s : S) (ss : List S) (es : List (List ℕ × D)) (name : List ℕ) (d : D)
        → header (see s) ≡ Some name
        → view (name, d) ≡ define (name, front inner (map see ss))
        → all_with (with_first name_of es (name, d)) ss ≡ all_with es (s ∷ ss)
    unfolding headed with_all
    added_front s ss es name d h v = rw (h, first_seen D C view name_in named_so es (name, d), v) refl

    module _ (ss : List S) (i : ℕ) (s : S) (below : i < length ss) (here : s ≡ get_or ss i s) where
      pub added_at : (es new : List (List ℕ × D)) (name : List ℕ) (d : D)
          → header (see s) ≡ Some name
          → view (name, d) ≡ define (name, front inner (map see (take (length ss - (i + 1)) (drop (i + 1) ss))))
          → new ≡ with_first name_of es (name, d)
          → all_with new (drop (i + 1) ss) ≡ all_with es (drop i ss)
      added_at es new name d h v e =
          ap (λ (x : List (List ℕ × D)). all_with x (drop (i + 1) ss)) e ∙ added_front s (drop (i + 1) ss) es name d h (v ∙ ap (λ x. define (name, front inner (map see x))) (take_rest ss (i + 1))) ∙ ap (all_with es) (sym (split_at ss i s below here))

  module _ (ss : List S) (i : ℕ) (s : S) (below : i < length ss) (here : s ≡ get_or ss i s) where
    pub none_at : (es : List (List ℕ × D)) → header (see s) ≡ None → all_with es (drop (i + 1) ss) ≡ all_with es (drop i ss)
    none_at es h = none_front s (drop (i + 1) ss) es h ∙ ap (all_with es) (sym (split_at ss i s below here))
