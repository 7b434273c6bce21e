-- Collecting what a list of statements gives, statement by statement.
use Rattle.std.proofs.Common.{◌≡◌, ℕ, ◌+◌, ◌<◌, List, [], ◌∷◌, ◌++◌, map, length, get_or, drop, sym, ap, ◌∙◌, append_assoc}
use Rattle.std.proofs.lemmas.List.{map-append}
use Rattle.cell_library.proofs.AddingLemmas.{split_at}

module _ {S R X Y : Type 0} (see : S → R) (show : X → Y) (gives : List R → List Y) where
  abbrev pub so_far : List X → List S → List Y
  so_far out ss = map show out ++ gives (map see ss)

  module _ (ss : List S) (i : ℕ) (s : S) (below : i < length ss) (here : s ≡ get_or ss i s) where
    at : (out : List X) → so_far out (drop i ss) ≡ map show out ++ gives (see s ∷ map see (drop (i + 1) ss))
    at out = ap (so_far out) (split_at ss i s below here)

    pub collected : (out new : List X) (x : X)
        → gives (see s ∷ map see (drop (i + 1) ss)) ≡ show x ∷ gives (map see (drop (i + 1) ss))
        → new ≡ out ++ x ∷ []
        → so_far new (drop (i + 1) ss) ≡ so_far out (drop i ss)
    collected out new x h e =
        ap (λ (xs : List X). so_far xs (drop (i + 1) ss)) e
        ∙ ap (λ (ys : List Y). ys ++ gives (map see (drop (i + 1) ss))) (map-append show out (x ∷ []))
        ∙ append_assoc (map show out) (show x ∷ []) (gives (map see (drop (i + 1) ss)))
        ∙ ap (λ (ys : List Y). map show out ++ ys) (sym h) ∙ sym (at out)

    pub passed : (out new : List X) → gives (see s ∷ map see (drop (i + 1) ss)) ≡ gives (map see (drop (i + 1) ss)) → new ≡ out → so_far new (drop (i + 1) ss) ≡ so_far out (drop i ss)
    passed out new h e = ap (λ (xs : List X). so_far xs (drop (i + 1) ss)) e ∙ ap (λ (ys : List Y). map show out ++ ys) (sym h) ∙ sym (at out)
