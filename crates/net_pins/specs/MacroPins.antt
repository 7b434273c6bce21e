-- The shapes of a pin of a macro layer by layer, on layers of TYPE ROUTING or CUT.
use Rattle.std.specs.Prelude.{ℕ, List, [], map, flat_map, Option, Some, None}
use Rattle.design_model.specs.declared.geometry.Point.{Point}
use Rattle.design_model.specs.Views.{rectangle_of}
use Rattle.lef_grammar.specs.Definitions.{Distances, Layer, LayerShapes}
use Rattle.lef_grammar.specs.Measures.{Shape, moved_by, on_layer, on_layer_if}
use Rattle.connection_rules.specs.PinShapes.{placed_shape}
use Rattle.checked_layers.specs.CheckedLayers.{checked_place}
use Rattle.design_wires.specs.Scales.{units_of}
use Rattle.net_pins.specs.declared.cell_place.CellPlace.{CellPlace}

-- those of one layer, before the component is placed
abbrev pub layer_checked : ℕ → Point → List Layer → LayerShapes → List Shape
layer_checked u o layers s = map (moved_by o) (on_layer_if u s.rectangles (checked_place layers s.layer))

abbrev pub all_checked : ℕ → Point → List Layer → List LayerShapes → List Shape
all_checked u o layers ss = flat_map (layer_checked u o layers) ss

abbrev pub placed_in : CellPlace → Shape → Shape
placed_in p s = placed_shape p.orient (rectangle_of p.frame.boundary) p.at (moved_by p.frame.origin s)

-- those of rectangles on a layer, where the component is placed
abbrev pub rectangles_placed : CellPlace → List (Distances × Distances) → ℕ → List Shape
rectangles_placed p rs n = map (placed_in p) (on_layer (units_of p.frame.scale) rs n)

abbrev pub rectangles_if : CellPlace → List (Distances × Distances) → Option ℕ → List Shape
rectangles_if p rs None = []
rectangles_if p rs (Some n) = rectangles_placed p rs n

abbrev pub layer_placed : CellPlace → List Layer → LayerShapes → List Shape
layer_placed p layers s = rectangles_if p s.rectangles (checked_place layers s.layer)

abbrev pub all_placed : CellPlace → List Layer → List LayerShapes → List Shape
all_placed p layers ss = flat_map (layer_placed p layers) ss
