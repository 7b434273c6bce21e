-- Names of layers that are pushed one after the other.
use Rattle.std.proofs.Common.{◌≡◌, ℕ, zero, suc, ◌+◌, List, [], ◌∷◌, ◌++◌, map, drop, length, refl, sym, ap, ◌∙◌, append_assoc, Option, Some, None, option_map, slice_get}
use Rattle.std.proofs.lemmas.List.{append-nil, drop_more, length-append, map-append}
use Rattle.std.proofs.lemmas.Option.{slice_get_within, get_or_from_slice_get}
use Rattle.lef_grammar.specs.Definitions.{Layer}
use Rattle.cell_library.specs.LayerViews.{layer_name}

drop_there : (layers : List Layer) (i : ℕ) (l : Layer) → slice_get layers i ≡ Some l → drop i layers ≡ l ∷ drop (i + 1) layers
drop_there layers i l h = drop_more layers i l (slice_get_within layers i l h) ∙ ap (λ (x : Layer). x ∷ drop (i + 1) layers) (get_or_from_slice_get layers i l l h)

drop_past : (layers : List Layer) (i : ℕ) → slice_get layers i ≡ None → drop i layers ≡ []
drop_past [] zero h = refl
drop_past [] (suc i) h = refl
drop_past (l ∷ layers) zero h = cc
drop_past (l ∷ layers) (suc i) h = drop_past layers i h

module _ {X : Type 0} (view : X → List ℕ) (layers : List Layer) (xs : List X) (all : List (List ℕ)) (so_far : map view xs ++ map layer_name (drop (length xs) layers) ≡ all) where
  pub next_name : (x : X) (ys : List X) → Some (view x) ≡ option_map layer_name (slice_get layers (length xs)) → ys ≡ xs ++ x ∷ [] → map view ys ++ map layer_name (drop (length ys) layers) ≡ all
  next_name x ys here pushed = by (slice_get layers (length xs)) refl here
    where
      by : (o : Option Layer) → slice_get layers (length xs) ≡ o → Some (view x) ≡ option_map layer_name o → map view ys ++ map layer_name (drop (length ys) layers) ≡ all
      by None is none = cc
      by (Some l) is same =
          let name_is : view x ≡ layer_name l = cc in
          ap (λ (zs : List X). map view zs ++ map layer_name (drop (length zs) layers)) pushed
          ∙ ap (λ (vs : List (List ℕ)). vs ++ map layer_name (drop (length (xs ++ x ∷ [])) layers)) (map-append view xs (x ∷ []))
          ∙ ap (λ (n : ℕ). (map view xs ++ view x ∷ []) ++ map layer_name (drop n layers)) (length-append xs (x ∷ []))
          ∙ append_assoc (map view xs) (view x ∷ []) (map layer_name (drop (length xs + 1) layers))
          ∙ ap (λ (v : List ℕ). map view xs ++ v ∷ map layer_name (drop (length xs + 1) layers)) name_is
          ∙ ap (λ (ls : List Layer). map view xs ++ map layer_name ls) (sym (drop_there layers (length xs) l is))
          ∙ so_far

  pub all_names : None ≡ option_map layer_name (slice_get layers (length xs)) → map view xs ≡ all
  all_names past = by (slice_get layers (length xs)) refl past
    where
      by : (o : Option Layer) → slice_get layers (length xs) ≡ o → None ≡ option_map layer_name o → map view xs ≡ all
      by None is none = sym (append-nil (map view xs)) ∙ ap (λ (ls : List Layer). map view xs ++ map layer_name ls) (sym (drop_past layers (length xs) is)) ∙ so_far
      by (Some l) is same = cc
