-- Layers by their names and by their places.
use Rattle.std.proofs.Common.{◌≡◌, ℕ, suc, Bool, true, false, List, ◌∷◌, ◌++◌, filter, refl, ap, ◌∙◌, [], Option, Some, None, if◌then◌else◌}
use Rattle.std.specs.List.{cons_option}
use Rattle.std.specs.Option.{option_map}
use Rattle.std.specs.Str.{bytes_eq}
use Rattle.form_meanings.specs.Firsts.{find_named}
use Rattle.lef_grammar.specs.Definitions.{Layer}
use Rattle.lef_grammar.specs.Measures.{place_among}
use Rattle.wire_rules.specs.ViaShapes.{NamedShape}
use Rattle.connection_rules.specs.PinShapes.{checked_named, is_checked, is_checked_kind, on_place, placed_among}
use Rattle.checked_layers.specs.CheckedLayers.{CheckedOneByOne, checked_place, if_checked, on_place_if}

abbrev name_of : Layer → List ℕ
name_of l = l.name

-- a place, where the layer is of TYPE ROUTING or CUT
abbrev pub by_kind : Option Layer → Option ℕ → Option ℕ
by_kind None place = None
by_kind (Some l) place = if is_checked_kind l.kind then place else None

mapped_if : (b : Bool) (n : ℕ) → (if b then Some (suc n) else None) ≡ option_map suc (if b then Some n else None)
mapped_if true n = refl
mapped_if false n = refl

later : (l : Layer) (layers : List Layer) (place : Option ℕ) → if_checked (l ∷ layers) (option_map suc place) ≡ option_map suc (if_checked layers place)
unfolding is_checked
later l layers None = refl
later l layers (Some n) = mapped_if (is_checked layers n) n

none_later : (l : Option Layer) (place : Option ℕ) → option_map suc (by_kind l place) ≡ by_kind l (option_map suc place)
none_later None place = refl
none_later (Some l) place = kinds (is_checked_kind l.kind) place
  where
    kinds : (b : Bool) (place : Option ℕ) → option_map suc (if b then place else None) ≡ (if b then option_map suc place else None)
    kinds true place = refl
    kinds false place = refl

step : (b : Bool) (l : Layer) (layers : List Layer) (found : Option Layer) (place : Option ℕ) → if_checked layers place ≡ by_kind found place
    → if_checked (l ∷ layers) (if b then Some 0 else option_map suc place) ≡ by_kind (if b then Some l else found) (if b then Some 0 else option_map suc place)
unfolding is_checked
step true l layers found place h = refl
step false l layers found place h = later l layers place ∙ ap (λ (o : Option ℕ). option_map suc o) h ∙ none_later found place

-- the place of the first layer of a name counts by the kind of that layer
pub places_by_kind : (layers : List Layer) (name : List ℕ) → checked_place layers name ≡ by_kind (find_named name_of layers name) (place_among layers name)
places_by_kind [] name = refl
places_by_kind (l ∷ layers) name = step (bytes_eq l.name name) l layers (find_named name_of layers name) (place_among layers name) (places_by_kind layers name)

kept : (layers : List Layer) (s : NamedShape) (place : Option ℕ) (shapes : List NamedShape)
    → filter (λ t. is_checked layers t.layer) (cons_option (option_map (on_place s.box) place) (placed_among layers shapes)) ≡ on_place_if s.box (if_checked layers place) ++ checked_named layers shapes
kept layers s None shapes = refl
kept layers s (Some n) shapes = cases (is_checked layers n)
  where
    cases : (b : Bool) → (if b then on_place s.box n ∷ checked_named layers shapes else checked_named layers shapes) ≡ on_place_if s.box (if b then Some n else None) ++ checked_named layers shapes
    cases true = refl
    cases false = refl

pub checked_one_by_one : CheckedOneByOne
checked_one_by_one layers s shapes = kept layers s (place_among layers s.layer) shapes
