-- The pin of a component as a part.
use Rattle.std.proofs.Common.{◌≡◌, ℕ, Bool, true, false, List, [], ◌∷◌, ◌++◌, map, refl, sym, ap, ap₂, ◌∙◌, Option, Some, None}
use Rattle.std.proofs.lemmas.List.{map-append}
use Rattle.design_model.specs.Geometry.{Rectangle, spanned}
use Rattle.design_model.specs.Views.{rectangle_of}
use Rattle.design_model.specs.declared.geometry.Orient.{Orient}
use Rattle.design_model.specs.declared.geometry.Point.{Point}
use Rattle.form_meanings.specs.Words.{◌>>=◌}
use Rattle.def_grammar.specs.Components.{Clause, other, placed, region, unplaced}
use Rattle.def_grammar.specs.Numbers.{int_of}
use Rattle.lef_grammar.specs.Definitions.{Distances, Layer, LayerShapes}
use Rattle.lef_grammar.specs.Definitions as lef
use Rattle.lef_grammar.specs.Library.{Library, Macro}
use Rattle.lef_grammar.specs.Measures.{Shape, boundary_of, moved_by, on_layer, on_layer_if, point_or_0, rectangle_in}
use Rattle.connection_rules.specs.NetParts.{Net}
use Rattle.connection_rules.specs.PinShapes.{macro_pin_shapes, placed_shape, shapes_at}
use Rattle.connection_rules.specs.Terminals.{NetPin, is_some_shape}
use Rattle.net_lists.specs.Building.{with_part, with_parts, with_shapes}
use Rattle.checked_layers.specs.CheckedLayers.{checked_place}
use Rattle.place_parts.specs.StandingViews.{standing_by}
use Rattle.place_parts.specs.declared.standing.Spot.{Spot}
use Rattle.place_parts.specs.declared.standing.Standing.TheVariants.{At}
use Rattle.design_wires.specs.Scales.{units_of}
use Rattle.net_pins.specs.CellPlaces.{origin, place_of_spot}
use Rattle.net_pins.specs.Counting.{counted}
use Rattle.net_pins.specs.FoundPins.{IsFrameOf}
use Rattle.net_pins.specs.MacroPins.{all_checked, all_placed, layer_checked, placed_in, rectangles_if}
use Rattle.net_pins.specs.declared.cell_frame.CellFrame.{CellFrame}
use Rattle.net_pins.specs.declared.cell_place.CellPlace.{CellPlace}
use Rattle.net_pins.proofs.MacroLemmas.{boundary_in_order, layer_by_layer, placed_so}

-- where the shapes of a component that stands there lie
stands_so : (u : ℕ) (m : Macro) (shapes : List Shape) (o : Option Clause) (spot : Spot) → Some (At spot) ≡ (o >>= standing_by)
    → map (placed_shape spot.orient (boundary_of u m.size) (place_of_spot spot)) shapes ≡ shapes_at u m shapes o
stands_so u m shapes None spot e = absurd (cc)
stands_so u m shapes (Some (unplaced rest)) spot e = absurd (cc)
stands_so u m shapes (Some (region name)) spot e = absurd (cc)
stands_so u m shapes (Some (other w rest)) spot e = absurd (cc)
stands_so u m shapes (Some (placed status at o)) spot e =
    let same : spot ≡ record { status = status; orient = o; x = int_of at.x; y = int_of at.y } = cc in
    ap (λ (s : Spot). map (placed_shape s.orient (boundary_of u m.size) (place_of_spot s)) shapes) same

module _ (p : CellPlace) where
  abbrev placed_there : Shape → Shape
  placed_there s = placed_shape p.orient (rectangle_of p.frame.boundary) p.at s

  on_one : (rs : List (Distances × Distances)) (n : ℕ) → map (placed_in p) (on_layer (units_of p.frame.scale) rs n) ≡ map placed_there (map (moved_by p.frame.origin) (on_layer (units_of p.frame.scale) rs n))
  on_one [] n = refl
  on_one (r ∷ rs) n = ap (λ (ss : List Shape). placed_in p (record { layer = n; box = rectangle_in (units_of p.frame.scale) r }) ∷ ss) (on_one rs n)

  on_one_if : (rs : List (Distances × Distances)) (place : Option ℕ) → rectangles_if p rs place ≡ map placed_there (map (moved_by p.frame.origin) (on_layer_if (units_of p.frame.scale) rs place))
  on_one_if rs None = refl
  on_one_if rs (Some n) = on_one rs n

  placed_all : (layers : List Layer) (ss : List LayerShapes) → all_placed p layers ss ≡ map placed_there (all_checked (units_of p.frame.scale) p.frame.origin layers ss)
  placed_all layers [] = refl
  placed_all layers (s ∷ ss) =
      ap₂ (λ (xs ys : List Shape). xs ++ ys) (on_one_if s.rectangles (checked_place layers s.layer)) (placed_all layers ss)
      ∙ sym (map-append placed_there (layer_checked (units_of p.frame.scale) p.frame.origin layers s) (all_checked (units_of p.frame.scale) p.frame.origin layers ss))

placed_all_so : (o : Orient) (u : ℕ) (size : Option Distances) (boundary : Rectangle) (at : Point) (ss : List Shape) → boundary ≡ spanned origin (point_or_0 u size)
    → map (placed_shape o boundary at) ss ≡ map (placed_shape o (boundary_of u size) at) ss
placed_all_so o u size boundary at [] is = refl
placed_all_so o u size boundary at (s ∷ ss) is =
    ap₂ (λ (t : Shape) (ts : List Shape). t ∷ ts) (placed_so o (boundary_of u size) boundary at s (is ∙ boundary_in_order u size)) (placed_all_so o u size boundary at ss is)

-- the shapes of a pin of a macro where a component stands
pub pin_placed : (library : Library) (m : Macro) (pin : lef.Pin) (f : CellFrame) (p : CellPlace) (spot : Spot) (o : Option Clause)
    → IsFrameOf m f → p.frame ≡ f → p.orient ≡ spot.orient → p.at ≡ place_of_spot spot → Some (At spot) ≡ (o >>= standing_by)
    → all_placed p library.layers pin.shapes ≡ shapes_at (units_of f.scale) m (macro_pin_shapes library (units_of f.scale) m pin) o
pin_placed library m pin f p spot o framed is turned at stands =
    let u = units_of f.scale in
    placed_all p library.layers pin.shapes
    ∙ ap (λ (h : CellFrame). map (placed_there p) (all_checked (units_of h.scale) h.origin library.layers pin.shapes)) is
    ∙ ap (λ (q : Point). map (placed_there p) (all_checked u q library.layers pin.shapes)) framed.moves
    ∙ ap (map (placed_there p)) (sym (layer_by_layer u (point_or_0 u m.origin) library.layers pin.shapes))
    ∙ placed_all_so p.orient u m.size (rectangle_of p.frame.boundary) p.at (macro_pin_shapes library u m pin) (ap (λ (h : CellFrame). rectangle_of h.boundary) is ∙ framed.spans)
    ∙ ap₂ (λ (t : Orient) (q : Point). map (placed_shape t (boundary_of u m.size) q) (macro_pin_shapes library u m pin)) turned at
    ∙ stands_so u m (macro_pin_shapes library u m pin) o spot stands

-- whether it counts
pub counts_so : (library : Library) (u : ℕ) (m : Macro) (pin : lef.Pin) (b c : Bool) → b ≡ is_some_shape (all_checked u (point_or_0 u m.origin) library.layers pin.shapes) → b ≡ c
    → is_some_shape (macro_pin_shapes library u m pin) ≡ c
counts_so library u m pin b c h is = ap is_some_shape (layer_by_layer u (point_or_0 u m.origin) library.layers pin.shapes) ∙ sym h ∙ is

pub uncounted : (p : NetPin) (ns : List Net) → p.counts ≡ false → ns ≡ with_parts (counted p) ns
uncounted p ns h = rw h refl

pub counted_so : (p : NetPin) (old begun now : List Net) → p.counts ≡ true → begun ≡ with_part true old → now ≡ with_shapes p.shapes begun → now ≡ with_parts (counted p) old
counted_so p old begun now h b e = rw h (e ∙ ap (with_shapes p.shapes) b)
