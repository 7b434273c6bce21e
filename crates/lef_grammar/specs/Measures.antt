-- Numbers, rectangles and shapes of a library in database units, of which there are u in a micron: each number by itself,
-- before any are added (LEF/DEF 5.8 Language Reference, "Units").
use Rattle.std.specs.Prelude.{ℕ, suc, List, [], ◌∷◌, ◌++◌, map, Option, Some, None, ℤ, pos, if◌then◌else◌}
use Rattle.std.specs.Option.{option_map}
use Rattle.std.specs.Str.{bytes_eq}
use Rattle.design_model.specs.declared.geometry.Point.{Point}
use Rattle.design_model.specs.Units.{Distance, nearest}
use Rattle.design_model.specs.Geometry.{Rectangle, spanned, moved}
use Rattle.lef_grammar.specs.Definitions.{Distances, Layer, LayerShapes, Pin, Macro}
use Rattle.lef_grammar.specs.Library.{Library}

abbrev pub point_in : ℕ → Distances → Point
point_in u p = record { x = nearest p.0 u; y = nearest p.1 u }

-- width and height, and 0 where there is no SIZE; or where ORIGIN moves geometry to
abbrev pub point_or_0 : ℕ → Option Distances → Point
point_or_0 u None = record { x = pos 0; y = pos 0 }
point_or_0 u (Some p) = point_in u p

-- a macro's boundary: one without SIZE is a point
abbrev pub boundary_of : ℕ → Option Distances → Rectangle
boundary_of u None = record { x1 = pos 0; y1 = pos 0; x2 = pos 0; y2 = pos 0 }
boundary_of u (Some size) = record { x1 = pos 0; y1 = pos 0; x2 = nearest size.0 u; y2 = nearest size.1 u }

-- a width, and 0 where there is none
abbrev pub width_in : ℕ → Option Distance → ℤ
width_in u None = pos 0
width_in u (Some width) = nearest width u

-- two corners, in any order
abbrev pub rectangle_in : ℕ → Distances × Distances → Rectangle
rectangle_in u c = spanned (point_in u c.0) (point_in u c.1)

-- the place of a layer among those of the library
abbrev pub place_among : List Layer → List ℕ → Option ℕ
place_among [] name = None
place_among (l ∷ ls) name = if bytes_eq l.name name then Some 0 else option_map suc (place_among ls name)

-- a rectangle on a layer of the library, by the layer's place
pub record Shape : Type 0 where
  pub layer : ℕ
  pub box : Rectangle

abbrev pub on_layer : ℕ → List (Distances × Distances) → ℕ → List Shape
on_layer u cs l = map (λ c. record { layer = l; box = rectangle_in u c }) cs

abbrev pub on_layer_if : ℕ → List (Distances × Distances) → Option ℕ → List Shape
on_layer_if u cs None = []
on_layer_if u cs (Some l) = on_layer u cs l

-- the shapes on layers of the library; those on others are dropped
unfoldable pub shapes_in : ℕ → List Layer → List LayerShapes → List Shape
shapes_in u layers [] = []
shapes_in u layers (s ∷ all) = on_layer_if u s.rectangles (place_among layers s.layer) ++ shapes_in u layers all

abbrev pub moved_by : Point → Shape → Shape
moved_by o s = record { layer = s.layer; box = moved o.x o.y s.box }

-- the shapes of a pin of a macro
abbrev pub pin_shapes : ℕ → Library → Macro → Pin → List Shape
pin_shapes u l m p = map (moved_by (point_or_0 u m.origin)) (shapes_in u l.layers p.shapes)
