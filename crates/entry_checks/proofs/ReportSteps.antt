-- Lines on a list of definitions, one after the other.
use Rattle.std.proofs.Common.{◌≡◌, ℕ, zero, suc, ◌+◌, List, [], ◌∷◌, ◌++◌, map, flat_map, drop, refl, sym, ap, ◌∙◌, append_assoc, Some, None, slice_get}
use Rattle.std.proofs.lemmas.List.{append-nil, drop-map}
use Rattle.std.proofs.lemmas.Option.{slice_get_within, get_or_from_slice_get}
use Rattle.cell_library.proofs.AddingLemmas.{split_at}

drop_there : {X : Type 0} (xs : List X) (i : ℕ) (x : X) → slice_get xs i ≡ Some x → drop i xs ≡ x ∷ drop (i + 1) xs
drop_there xs i x h = split_at xs i x (slice_get_within xs i x h) (sym (get_or_from_slice_get xs i x x h))

drop_past : {X : Type 0} (xs : List X) (i : ℕ) → slice_get xs i ≡ None → drop i xs ≡ []
drop_past [] zero h = refl
drop_past [] (suc i) h = refl
drop_past (x ∷ xs) zero h = cc
drop_past (x ∷ xs) (suc i) h = drop_past xs i h

module _ {X Y : Type 0} (view : X → Y) (lines_of : Y → List (List ℕ)) (xs : List X) (i : ℕ) (before all : List (List ℕ)) (so_far : before ++ flat_map lines_of (drop i (map view xs)) ≡ all) where
  pub one_reported : (x : X) (after : List (List ℕ)) → Some x ≡ slice_get xs i → after ≡ before ++ lines_of (view x) → after ++ flat_map lines_of (drop (i + 1) (map view xs)) ≡ all
  one_reported x after here added =
      let there : drop i (map view xs) ≡ view x ∷ drop (i + 1) (map view xs) =
      drop-map view i xs ∙ ap (map view) (drop_there xs i x (sym here)) ∙ ap (λ ys. view x ∷ ys) (sym (drop-map view (i + 1) xs)) in
      rw (added, append_assoc) (ap (λ ys. before ++ flat_map lines_of ys) (sym there) ∙ so_far)

  pub all_reported : None ≡ slice_get xs i → before ≡ all
  all_reported past =
      let none : drop i (map view xs) ≡ [] = drop-map view i xs ∙ ap (map view) (drop_past xs i (sym past)) in
      sym (append-nil before) ∙ ap (λ ys. before ++ flat_map lines_of ys) (sym none) ∙ so_far
