-- The shapes of a macro's pins that are left to be given.
use Rattle.std.specs.Prelude.{◌≡◌, ℕ, ◌+◌, suc, List, [], ◌∷◌, ◌++◌, map, flat_map, drop, length, sum_by, Option, MatchOption}
use Rattle.design_model.specs.declared.geometry.Point.{Point}
use Rattle.design_model.specs.Geometry.{IsNearRectangle}
use Rattle.design_model.specs.Views.{rectangle_of}
use Rattle.lef_grammar.specs.Definitions.{Layer, Pin}
use Rattle.lef_grammar.specs.MacroShapes.{PinShape, in_pin}
use Rattle.lef_grammar.specs.Measures.{Shape, moved_by, on_layer, shapes_in}
use Rattle.cell_library.specs.Numbers.{rectangle_view}
use Rattle.cell_library.specs.PinViews.{pins_view}
use Rattle.cell_library.specs.ShapeViews.{shapes_view}
use Rattle.cell_library.specs.declared.macro_shapes.PinShape as code_shape
use Rattle.cell_library.specs.declared.macro_shapes.Walk.{Walk}

abbrev pub pin_shape_view : code_shape.PinShape → PinShape
pin_shape_view s = record { pin = s.pin.now; shape = record { layer = s.layer.0; box = rectangle_of s.rect } }

-- shapes of the pin of a name, moved
abbrev pub at_pin : Point → List ℕ → List Shape → List PinShape
at_pin o name ss = map (in_pin name) (map (moved_by o) ss)

abbrev pub of_pin : ℕ → Point → List Layer → Pin → List PinShape
of_pin u o layers p = at_pin o p.name (shapes_in u layers p.shapes)

-- those of rectangles on a layer, of the other layers of their pin, and of the other pins
abbrev pub left_of : {A : Type 0} → Walk A → List PinShape
left_of w =
    at_pin w.placing.origin w.pin.now (on_layer w.placing.per_micron (map rectangle_view w.rectangles.now) w.layer.0)
    ++ (at_pin w.placing.origin w.pin.now (shapes_in w.placing.per_micron w.library.now.layers (map shapes_view w.shapes.now))
    ++ flat_map (of_pin w.placing.per_micron w.placing.origin w.library.now.layers) (drop w.next_pin (pins_view w.pins.now)))

-- a pin and its layers
abbrev pub pin_steps : Pin → ℕ
pin_steps p = suc (length p.shapes)

-- how many layers and pins are left
abbrev pub steps_of : {A : Type 0} → Walk A → ℕ
steps_of w = length w.shapes.now + sum_by pin_steps (drop w.next_pin (pins_view w.pins.now))

-- a call gave the first that was left, whose numbers lie within plus or minus 2 ^ 61; or none was left
abbrev pub GivesShape : List PinShape → Option code_shape.PinShape → List PinShape → Type 0
GivesShape old found new = MatchOption found ((old ≡ []) × (new ≡ [])) (λ s. (old ≡ pin_shape_view s ∷ new) × IsNearRectangle (rectangle_of s.rect))
