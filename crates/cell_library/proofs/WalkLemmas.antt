-- What is left of the shapes of a macro, step by step.
use Rattle.std.proofs.Common.{◌≡◌, ℕ, zero, suc, ◌+◌, ◌-◌, ◌<◌, ◌==◌, false, List, [], ◌∷◌, ◌++◌, map, flat_map, length, sum_by, drop, take, get_or, refl, sym, ap, ◌∙◌, append_assoc, Some, None, slice_get, arith}
use Rattle.std.proofs.lemmas.List.{map-append, drop-map, length-map, take_rest}
use Rattle.std.proofs.lemmas.List.Sums.{sum_by-cons}
use Rattle.std.proofs.lemmas.Option.{slice_get_within, get_or_from_slice_get}
use Rattle.design_model.specs.declared.geometry.Point.{Point}
use Rattle.lef_grammar.specs.Definitions.{Distances, Layer, LayerShapes, Pin}
use Rattle.lef_grammar.specs.MacroShapes.{PinShape, in_pin}
use Rattle.lef_grammar.specs.Measures.{moved_by, on_layer, place_among, shapes_in}
use Rattle.cell_library.specs.PinViews.{pin_view, pins_view}
use Rattle.cell_library.specs.ShapesLeft.{at_pin, of_pin, pin_steps}
use Rattle.cell_library.specs.Numbers.{rectangle_view}
use Rattle.cell_library.specs.ShapeViews.{shapes_view}
use Rattle.cell_library.specs.declared.numbers.MicronRect.{MicronRect}
use Rattle.cell_library.specs.declared.pin.Pin as code_pin
use Rattle.cell_library.specs.declared.shapes.LayerShapes as code_shapes
use Rattle.cell_library.proofs.AddingLemmas.{split_at}

drop_there : {X : Type 0} (xs : List X) (i : ℕ) (x : X) → slice_get xs i ≡ Some x → drop i xs ≡ x ∷ drop (i + 1) xs
drop_there xs i x h = split_at xs i x (slice_get_within xs i x h) (sym (get_or_from_slice_get xs i x x h))

drop_past : {X : Type 0} (xs : List X) (i : ℕ) → slice_get xs i ≡ None → drop i xs ≡ []
drop_past [] zero h = refl
drop_past [] (suc i) h = refl
drop_past (x ∷ xs) zero h = cc
drop_past (x ∷ xs) (suc i) h = drop_past xs i h

pub some_left : (n : ℕ) → false ≡ (n == 0) → 0 < n
some_left zero h = cc
some_left (suc n) h = omega arith

module _ {A : Type 0} (pins : List (List ℕ × code_pin.Pin A)) (i : ℕ) where
  pub no_pin : slice_get pins i ≡ None → drop i (pins_view pins) ≡ []
  no_pin h = drop-map pin_view i pins ∙ ap (map pin_view) (drop_past pins i h)

  pub pin_there : (e : List ℕ × code_pin.Pin A) → slice_get pins i ≡ Some e → drop i (pins_view pins) ≡ pin_view e ∷ drop (i + 1) (pins_view pins)
  pin_there e h = drop-map pin_view i pins ∙ ap (map pin_view) (drop_there pins i e h) ∙ ap (λ ps. pin_view e ∷ ps) (sym (drop-map pin_view (i + 1) pins))

  -- a pin that is entered leaves fewer steps
  pub fewer_steps : (e : List ℕ × code_pin.Pin A) (ss : List (code_shapes.LayerShapes A)) → slice_get pins i ≡ Some e → ss ≡ e.1.shapes
      → length ss + sum_by pin_steps (drop (i + 1) (pins_view pins)) < 0 + sum_by pin_steps (drop i (pins_view pins))
  fewer_steps e ss h same = rw (pin_there e h, same, sum_by-cons pin_steps (pin_view e) (drop (i + 1) (pins_view pins)), length-map e.1.shapes shapes_view) (omega arith)

module _ (u : ℕ) (o : Point) (layers : List Layer) where
  -- rectangles of a layer, the layers behind it and the pins behind theirs
  abbrev pub left : List ℕ → List (Distances × Distances) → ℕ → List LayerShapes → List Pin → List PinShape
  left pin cs l ss ps = at_pin o pin (on_layer u cs l) ++ (at_pin o pin (shapes_in u layers ss) ++ flat_map (of_pin u o layers) ps)

  pub none_left : (pin : List ℕ) (l : ℕ) → left pin [] l [] [] ≡ []
  unfolding shapes_in
  none_left pin l = refl

  pub pin_entered : (pin : List ℕ) (l : ℕ) (p : Pin) (ps : List Pin) → left p.name [] l p.shapes ps ≡ left pin [] l [] (p ∷ ps)
  unfolding shapes_in
  pin_entered pin l p ps = refl

  module _ (pin : List ℕ) (l : ℕ) (s : LayerShapes) (ss : List LayerShapes) (ps : List Pin) where
    pub layer_dropped : place_among layers s.layer ≡ None → left pin [] l ss ps ≡ left pin [] l (s ∷ ss) ps
    unfolding shapes_in
    layer_dropped h = rw h refl

    pub layer_entered : (to : ℕ) → place_among layers s.layer ≡ Some to → left pin s.rectangles to ss ps ≡ left pin [] l (s ∷ ss) ps
    unfolding shapes_in
    layer_entered to h = rw (
      h,
      map-append (moved_by o) (on_layer u s.rectangles to) (shapes_in u layers ss),
      map-append (in_pin pin) (map (moved_by o) (on_layer u s.rectangles to)) (map (moved_by o) (shapes_in u layers ss)),
      append_assoc (at_pin o pin (on_layer u s.rectangles to)) (at_pin o pin (shapes_in u layers ss)) (flat_map (of_pin u o layers) ps),
    ) refl

  -- the first of the layers that are left of a pin, as the program has them
  module _ {A : Type 0} (pin : List ℕ) (l : ℕ) (ss : List (code_shapes.LayerShapes A)) (s : code_shapes.LayerShapes A) (some : 0 < length ss) (here : s ≡ get_or ss 0 s) (ps : List Pin) where
    behind : map shapes_view (take (length ss - 1) (drop 1 ss)) ≡ map shapes_view (drop 1 ss)
    behind = ap (map shapes_view) (take_rest ss 1)

    all_layers : map shapes_view ss ≡ shapes_view (get_or ss 0 s) ∷ map shapes_view (drop 1 ss)
    all_layers = ap (map shapes_view) (split_at ss 0 s some here ∙ ap (λ x. x ∷ drop 1 ss) here)

    pub first_dropped : place_among layers (get_or ss 0 s).layer.now ≡ None
        → left pin [] l (map shapes_view (take (length ss - 1) (drop 1 ss))) ps ≡ left pin [] l (map shapes_view ss) ps
    first_dropped h = rw (behind, all_layers) (layer_dropped pin l (shapes_view (get_or ss 0 s)) (map shapes_view (drop 1 ss)) ps h)

    pub first_entered : (to : ℕ) (cs : List MicronRect) → place_among layers (get_or ss 0 s).layer.now ≡ Some to → cs ≡ (get_or ss 0 s).rectangles
        → left pin (map rectangle_view cs) to (map shapes_view (take (length ss - 1) (drop 1 ss))) ps ≡ left pin [] l (map shapes_view ss) ps
    first_entered to cs h same = rw (same, behind, all_layers) (layer_entered pin l (shapes_view (get_or ss 0 s)) (map shapes_view (drop 1 ss)) ps to h)
