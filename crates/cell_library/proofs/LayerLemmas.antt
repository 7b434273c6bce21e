-- Places of layers.
use Rattle.std.proofs.Common.{◌≡◌, ℕ, suc, List, [], ◌∷◌, refl, ap, Option, Some, if◌then◌else◌}
use Rattle.std.specs.Option.{option_map}
use Rattle.std.specs.Str.{bytes_eq}
use Rattle.lef_grammar.specs.Measures.{place_among}
use Rattle.cell_library.specs.LayerViews.{layers_view}
use Rattle.cell_library.specs.Naming.{place_of}
use Rattle.cell_library.specs.declared.layer.Layer.{Layer}

pub placed_among : (name : List ℕ) (es : List (List ℕ × Layer)) → place_of es name ≡ place_among (layers_view es) name
placed_among name [] = refl
placed_among name (e ∷ es) = ap (λ (o : Option ℕ). if bytes_eq e.0 name then Some 0 else option_map suc o) (placed_among name es)
