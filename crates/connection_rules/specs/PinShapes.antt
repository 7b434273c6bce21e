-- The shapes of pins on layers of TYPE ROUTING or CUT, in database units, of which there are u in a micron (LEF/DEF 5.8 Language
-- Reference, "Pins", "Macro Pin Statement" and "Specifying Orientation"). Shapes on other layers connect nothing (own).
use Rattle.std.specs.Prelude.{ℕ, zero, suc, Bool, true, false, List, [], ◌∷◌, ◌++◌, map, filter, flat_map, Option, Some, None}
use Rattle.std.specs.List.{filter_map}
use Rattle.std.specs.Option.{option_map}
use Rattle.design_model.specs.declared.geometry.Orient.{Orient}
use Rattle.design_model.specs.declared.geometry.Point.{Point}
use Rattle.design_model.specs.Geometry.{Rectangle, moved, placed}
use Rattle.form_meanings.specs.Firsts.{first_of}
use Rattle.def_grammar.specs.Components as components
use Rattle.def_grammar.specs.Points.{place_of}
use Rattle.def_grammar.specs.Pins.{Pin, PinClause, pin_placed, pin_port, pin_has_rectangle, pin_has_via}
use Rattle.lef_grammar.specs.Definitions as lef
use Rattle.lef_grammar.specs.Library.{Library, Macro}
use Rattle.lef_grammar.specs.Measures.{Shape, boundary_of, pin_shapes, place_among}
use Rattle.wire_rules.specs.Placed.{turned_at}
use Rattle.wire_rules.specs.ViaShapes.{NamedShape}
use Rattle.net_rules.specs.ViaRectangles.{box_of}

abbrev pub is_checked_kind : lef.LayerKind → Bool
is_checked_kind lef.routing = true
is_checked_kind lef.cut = true
is_checked_kind lef.other = false

-- the layer at a place is of TYPE ROUTING or CUT
unfoldable pub is_checked : List lef.Layer → ℕ → Bool
is_checked [] n = false
is_checked (l ∷ ls) zero = is_checked_kind l.kind
is_checked (l ∷ ls) (suc n) = is_checked ls n

abbrev pub checked : List lef.Layer → List Shape → List Shape
checked layers shapes = filter (λ s. is_checked layers s.layer) shapes

abbrev pub on_place : Rectangle → ℕ → Shape
on_place box layer = record { layer = layer; box = box }

-- shapes by the names of their layers, those on layers that aren't known left out
abbrev pub placed_among : List lef.Layer → List NamedShape → List Shape
placed_among layers shapes = filter_map (λ s. option_map (on_place s.box) (place_among layers s.layer)) shapes

-- of shapes by the names of their layers, those on layers of TYPE ROUTING or CUT
abbrev pub checked_named : List lef.Layer → List NamedShape → List Shape
checked_named layers shapes = checked layers (placed_among layers shapes)

-- the shapes of a pin of a macro, and where they lie for a component that is placed
abbrev pub macro_pin_shapes : Library → ℕ → Macro → lef.Pin → List Shape
macro_pin_shapes library u m p = checked library.layers (pin_shapes u library m p)

abbrev pub placed_shape : Orient → Rectangle → Point → Shape → Shape
placed_shape o boundary at s = record { layer = s.layer; box = placed o boundary at s.box }

abbrev pub shapes_at : ℕ → Macro → List Shape → Option components.Clause → List Shape
shapes_at u m shapes (Some (components.placed status at o)) = map (placed_shape o (boundary_of u m.size) (place_of at)) shapes
shapes_at u m shapes _ = []

-- the ports of a pin of the design: its clauses up to the first PORT, and those from each PORT to the next
unfoldable pub ports : List PinClause → List PinClause → List (List PinClause)
ports port [] = port ∷ []
ports port (pin_port ∷ cs) = port ∷ ports [] cs
ports port (c ∷ cs) = ports (port ++ c ∷ []) cs

abbrev pub ports_of : Pin → List (List PinClause)
ports_of p = ports [] p.clauses

abbrev pub placing_of_clause : PinClause → Option (Point × Orient)
placing_of_clause (pin_placed status at o) = Some (place_of at, o)
placing_of_clause _ = None

abbrev pub moved_shape : Point → NamedShape → NamedShape
moved_shape at s = record { layer = s.layer; box = moved at.x at.y s.box }

abbrev pub turned_shape : Point × Orient → NamedShape → NamedShape
turned_shape p s = record { layer = s.layer; box = turned_at p.1 p.0 s.box }

module _ (via_shapes : List ℕ → List NamedShape) where
  -- the shapes of a clause about the pin's origin, a via's without a turn
  abbrev pub clause_shapes : PinClause → List NamedShape
  clause_shapes (pin_has_rectangle r) = record { layer = r.layer; box = box_of r.corners } ∷ []
  clause_shapes (pin_has_via v) = map (moved_shape (place_of v.at)) (via_shapes v.name)
  clause_shapes _ = []

  -- those of a port where it is placed, and none where it isn't
  abbrev pub shapes_if : List PinClause → Option (Point × Orient) → List NamedShape
  shapes_if cs None = []
  shapes_if cs (Some p) = map (turned_shape p) (flat_map clause_shapes cs)

  abbrev pub port_shapes : List PinClause → List NamedShape
  port_shapes cs = shapes_if cs (first_of placing_of_clause cs)
