-- The shapes of a pin of a macro on layers of TYPE ROUTING or CUT, layer by layer.
use Rattle.std.proofs.Common.{◌≡◌, ℕ, ℤ, pos, neg_ℤ, ◌-ℤ◌, Bool, true, false, ◌||◌, List, [], ◌∷◌, ◌++◌, filter, map, refl, sym, ap, ap₂, ◌∙◌, arith, Option, Some, None, if◌then◌else◌}
use Rattle.std.specs.Int.{int_min, int_max}
use Rattle.std.proofs.lemmas.Int.{ints, clamps}
use Rattle.std.proofs.lemmas.List.{map-append}
use Rattle.design_model.specs.Geometry.{Rectangle, lower_left, moved, spanned, turned, upper_right}
use Rattle.design_model.specs.declared.geometry.Orient.{Orient}
use Rattle.design_model.specs.declared.geometry.Orient.TheVariants.{N, W, S, E, FN, FS, FW, FE}
use Rattle.design_model.specs.declared.geometry.Point.{Point}
use Rattle.lef_grammar.specs.Definitions.{Distances, Layer, LayerShapes}
use Rattle.lef_grammar.specs.Measures.{Shape, boundary_of, moved_by, on_layer, on_layer_if, place_among, point_or_0, shapes_in}
use Rattle.connection_rules.specs.PinShapes.{checked, is_checked, placed_shape}
use Rattle.checked_layers.specs.CheckedLayers.{if_checked}
use Rattle.connection_rules.specs.Terminals.{is_some_shape}
use Rattle.net_pins.specs.MacroPins.{all_checked, layer_checked}
use Rattle.net_pins.proofs.ShapeLemmas.{filter_both, some_in_both}

all_on : (u n : ℕ) (o : Point) (rs : List (Distances × Distances)) (test : ℕ → Bool) (b : Bool) → test n ≡ b
    → filter (λ (s : Shape). test s.layer) (map (moved_by o) (on_layer u rs n)) ≡ (if b then map (moved_by o) (on_layer u rs n) else [])
all_on u n o [] test true h = refl
all_on u n o [] test false h = refl
all_on u n o (r ∷ rs) test true h = rw (h, all_on u n o rs test true h) refl
all_on u n o (r ∷ rs) test false h = rw (h, all_on u n o rs test false h) refl

on_if : (u n : ℕ) (o : Point) (rs : List (Distances × Distances)) (b : Bool) → (if b then map (moved_by o) (on_layer u rs n) else []) ≡ map (moved_by o) (on_layer_if u rs (if b then Some n else None))
on_if u n o rs true = refl
on_if u n o rs false = refl

one_layer : (u : ℕ) (o : Point) (layers : List Layer) (rs : List (Distances × Distances)) (place : Option ℕ) → checked layers (map (moved_by o) (on_layer_if u rs place)) ≡ map (moved_by o) (on_layer_if u rs (if_checked layers place))
one_layer u o layers rs None = refl
one_layer u o layers rs (Some n) = all_on u n o rs (is_checked layers) (is_checked layers n) refl ∙ on_if u n o rs (is_checked layers n)

pub layer_by_layer : (u : ℕ) (o : Point) (layers : List Layer) (ss : List LayerShapes) → checked layers (map (moved_by o) (shapes_in u layers ss)) ≡ all_checked u o layers ss
unfolding shapes_in
layer_by_layer u o layers [] = refl
layer_by_layer u o layers (s ∷ ss) =
    let here = on_layer_if u s.rectangles (place_among layers s.layer) in
    ap (checked layers) (map-append (moved_by o) here (shapes_in u layers ss))
    ∙ filter_both (λ (t : Shape). is_checked layers t.layer) (map (moved_by o) here) (map (moved_by o) (shapes_in u layers ss))
    ∙ ap₂ (λ (xs ys : List Shape). xs ++ ys) (one_layer u o layers s.rectangles (place_among layers s.layer)) (layer_by_layer u o layers ss)

-- whether the first of some layers has a shape, or one behind it
module _ (u : ℕ) (o : Point) (layers : List Layer) (left rest : List LayerShapes) (s : LayerShapes) (here all : Bool) (is : left ≡ s ∷ rest) (so_far : is_some_shape (all_checked u o layers left) ≡ all) (h : here ≡ is_some_shape (layer_checked u o layers s)) where
  first_or_later : (here || is_some_shape (all_checked u o layers rest)) ≡ all
  first_or_later =
      ap (λ (b : Bool). b || is_some_shape (all_checked u o layers rest)) h
      ∙ sym (some_in_both (layer_checked u o layers s) (all_checked u o layers rest))
      ∙ ap (λ (ls : List LayerShapes). is_some_shape (all_checked u o layers ls)) (sym is)
      ∙ so_far

  pub some_here : here ≡ true → true ≡ all
  some_here t = ap (λ (b : Bool). b || is_some_shape (all_checked u o layers rest)) (sym t) ∙ first_or_later

  pub none_here : here ≡ false → is_some_shape (all_checked u o layers rest) ≡ all
  none_here f = ap (λ (b : Bool). b || is_some_shape (all_checked u o layers rest)) (sym f) ∙ first_or_later

-- the ends of an interval, ordered twice
low : (a b : ℤ) → int_min (int_min a b) (int_max a b) ≡ int_min a b
low a b = omega (arith, ints, clamps)

high : (a b : ℤ) → int_max (int_min a b) (int_max a b) ≡ int_max a b
high a b = omega (arith, ints, clamps)

-- the same, about zero
low_neg : (a b : ℤ) → int_min (neg_ℤ (int_min a b)) (neg_ℤ (int_max a b)) ≡ int_min (neg_ℤ a) (neg_ℤ b)
low_neg a b = omega (arith, ints, clamps)

high_neg : (a b : ℤ) → int_max (neg_ℤ (int_min a b)) (neg_ℤ (int_max a b)) ≡ int_max (neg_ℤ a) (neg_ℤ b)
high_neg a b = omega (arith, ints, clamps)

abbrev in_order : Rectangle → Rectangle
in_order r = spanned (lower_left r) (upper_right r)

turned_in_order : (o : Orient) (r : Rectangle) → turned o (in_order r) ≡ turned o r
turned_in_order N r = rw (low r.x1 r.x2, high r.x1 r.x2, low r.y1 r.y2, high r.y1 r.y2) refl
turned_in_order W r = rw (low r.x1 r.x2, high r.x1 r.x2, low_neg r.y1 r.y2, high_neg r.y1 r.y2) refl
turned_in_order S r = rw (low_neg r.x1 r.x2, high_neg r.x1 r.x2, low_neg r.y1 r.y2, high_neg r.y1 r.y2) refl
turned_in_order E r = rw (low_neg r.x1 r.x2, high_neg r.x1 r.x2, low r.y1 r.y2, high r.y1 r.y2) refl
turned_in_order FN r = rw (low_neg r.x1 r.x2, high_neg r.x1 r.x2, low r.y1 r.y2, high r.y1 r.y2) refl
turned_in_order FS r = rw (low r.x1 r.x2, high r.x1 r.x2, low_neg r.y1 r.y2, high_neg r.y1 r.y2) refl
turned_in_order FW r = rw (low r.x1 r.x2, high r.x1 r.x2, low r.y1 r.y2, high r.y1 r.y2) refl
turned_in_order FE r = rw (low_neg r.x1 r.x2, high_neg r.x1 r.x2, low_neg r.y1 r.y2, high_neg r.y1 r.y2) refl

-- a boundary by its width and height, with corners in order
pub boundary_in_order : (u : ℕ) (size : Option Distances) → spanned (record { x = pos 0; y = pos 0 }) (point_or_0 u size) ≡ in_order (boundary_of u size)
boundary_in_order u None = refl
boundary_in_order u (Some d) = refl

-- Where a shape goes doesn't depend on which corners the boundary is given by.
pub placed_so : (o : Orient) (r boundary : Rectangle) (at : Point) (s : Shape) → boundary ≡ in_order r → placed_shape o boundary at s ≡ placed_shape o r at s
placed_so o r boundary at s is =
    ap (λ (t : Rectangle). let made : Shape = record { layer = s.layer; box = moved (at.x -ℤ t.x1) (at.y -ℤ t.y1) (turned o s.box) } in made) (ap (turned o) is ∙ turned_in_order o r)
