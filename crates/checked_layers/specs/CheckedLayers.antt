-- Layers of TYPE ROUTING or CUT by their names.
use Rattle.std.specs.Prelude.{◌≡◌, ℕ, List, [], ◌∷◌, ◌++◌, Option, Some, None, if◌then◌else◌}
use Rattle.design_model.specs.Geometry.{Rectangle}
use Rattle.lef_grammar.specs.Definitions.{Layer}
use Rattle.lef_grammar.specs.Measures.{Shape, place_among}
use Rattle.wire_rules.specs.ViaShapes.{NamedShape}
use Rattle.connection_rules.specs.PinShapes.{checked_named, is_checked, on_place}

abbrev pub if_checked : List Layer → Option ℕ → Option ℕ
if_checked layers None = None
if_checked layers (Some n) = if is_checked layers n then Some n else None

-- the place of the layer of a name, where it is of TYPE ROUTING or CUT
abbrev pub checked_place : List Layer → List ℕ → Option ℕ
checked_place layers name = if_checked layers (place_among layers name)

abbrev pub on_place_if : Rectangle → Option ℕ → List Shape
on_place_if box None = []
on_place_if box (Some n) = on_place box n ∷ []

-- Of shapes by the names of their layers, each whose layer is such a one stands there with the layer's place.
abbrev pub CheckedOneByOne : Type 0
CheckedOneByOne = (layers : List Layer) (s : NamedShape) (shapes : List NamedShape) → checked_named layers (s ∷ shapes) ≡ on_place_if s.box (checked_place layers s.layer) ++ checked_named layers shapes
