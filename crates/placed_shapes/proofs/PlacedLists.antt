-- Shapes of a set under the places of their owners, without their order.
use Rattle.std.proofs.Common.{◌≡◌, ◌∙◌, ◌<◌, ◌≤◌, ◌+◌, ℕ, List, [], ◌∷◌, ◌++◌, Option, Some, None, refl, sym, ap, arith, get_or, length, map, sum_by, take}
use Rattle.std.specs.Prelude.{IfSome}
use Rattle.std.proofs.lemmas.List.{map_more, take_all}
use Rattle.std.proofs.lemmas.List.Sums.{sum_by-append, sum_by-cons}
use Rattle.design_model.specs.declared.identifier.ShapeId.{ShapeId}
use Rattle.lef_grammar.specs.Measures.{Shape}
use Rattle.line_laws.specs.Lines.{SameThings}
use Rattle.line_laws.proofs.SameSums.{maps_are_same}
use Rattle.net_lists.specs.PartCuts.{shape_view}
use Rattle.net_lists.specs.declared.parts.NetShape.{NetShape}
use Rattle.shape_index.specs.declared.shape.Shape.{Shape as Stored}
use Rattle.shape_index.specs.Shapes.{AreSame, at}
use Rattle.placed_shapes.specs.Placed.{at_place, placed_shape, placed_shapes, stored}

abbrev Entry : Type 0
Entry = ShapeId × Stored

sum_by-map : {A B : Type 0} (w : B → ℕ) (f : A → B) (xs : List A) → sum_by w (map f xs) ≡ sum_by (λ x. w (f x)) xs
sum_by-map w f [] = refl
sum_by-map w f (x ∷ xs) = let r = sum_by-map w f xs in omega (arith, r, sum_by-cons w (f x) (map f xs), sum_by-cons (λ y. w (f y)) x xs)

-- entries that were made of shapes
pub made_placed : (es : List Entry) (xs : List Stored) → SameThings (map (λ e. e.1) es) xs → SameThings (placed_shapes es) (map placed_shape xs)
made_placed es xs h = record {
  sums = λ w.
      sum_by-map w (λ (e : Entry). placed_shape e.1) es
      ∙ sym (sum_by-map (λ (s : Stored). w (placed_shape s)) (λ (e : Entry). e.1) es)
      ∙ h.sums (λ s. w (placed_shape s))
      ∙ sym (sum_by-map w placed_shape xs);
}

placed_as : (xs ys : List Entry) → SameThings xs ys → SameThings (placed_shapes xs) (placed_shapes ys)
placed_as xs ys h = maps_are_same Entry (ℕ × Shape) (λ e. placed_shape e.1) xs ys h

same_placed : (place : ℕ) (shape : NetShape) (s : Stored) → AreSame s (stored place shape) → placed_shape s ≡ (place, shape_view shape)
same_placed place shape s h = let layer = h.layer in let rect = h.rect in let net = h.net in rw (layer, rect, net) refl

-- a shape that is taken out
pub one_less : (place : ℕ) (shape : NetShape) (old new : List Entry) (id : ShapeId) (r : Option Stored) (x : Stored) → x ≡ stored place shape → r ≡ at id old → IfSome r (λ s. SameThings old ((id, s) ∷ new))
    → ((s : Stored) × (at id old ≡ Some s) × AreSame s x) → SameThings (placed_shapes old) ((place, shape_view shape) ∷ placed_shapes new)
one_less place shape old new id None x is value gone f = let e = f.1 in cc
one_less place shape old new id (Some s) x is value gone f =
    let e = f.1 in
    let one : f.0 ≡ s = cc in
    let same : AreSame s (stored place shape) = rw (one, is) at f.2 in
    rw (← same_placed place shape s same) (placed_as old ((id, s) ∷ new) gone)

-- and one that is put in
pub one_more : (place : ℕ) (shape : NetShape) (old roomy new : List Entry) (id : ShapeId) (x : Stored) → x ≡ stored place shape → roomy ≡ old → SameThings new ((id, x) ∷ roomy)
    → SameThings (placed_shapes new) ((place, shape_view shape) ∷ placed_shapes old)
one_more place shape old roomy new id x is same h = placed_as new ((id, stored place shape) ∷ old) (rw (is, same) at h)

-- shapes of one owner, one after the other
sum_taken : {A B : Type 0} (w : B → ℕ) (f : A → B) (xs : List A) (i : ℕ) (x : A) → i < length xs → x ≡ get_or xs i x → sum_by w (map f (take (i + 1) xs)) ≡ sum_by w (map f (take i xs)) + w (f x)
sum_taken w f xs i x below is =
    let more : map f (take (i + 1) xs) ≡ map f (take i xs) ++ f x ∷ [] = map_more f xs i x below ∙ ap (λ y. map f (take i xs) ++ f y ∷ []) (sym is) in
    ap (sum_by w) more ∙ omega (arith, sum_by-append w (map f (take i xs)) (f x ∷ []), sum_by-cons w (f x) [])

module _ (place : ℕ) (shapes : List NetShape) (i : ℕ) (x : NetShape) where
  pub next_taken : (old now new : List (ℕ × Shape)) → i < length shapes → x ≡ get_or shapes i x → SameThings old (at_place place (take i shapes) ++ now) → SameThings now ((place, shape_view x) ∷ new)
      → SameThings old (at_place place (take (i + 1) shapes) ++ new)
  next_taken old now new below is h k = record {
    sums = λ w.
        let a = h.sums w in
        let b = k.sums w in
        let one = sum_taken w (λ (s : NetShape). (place, shape_view s)) shapes i x below is in
        omega (arith, a, b, one, sum_by-append w (at_place place (take i shapes)) now, sum_by-append w (at_place place (take (i + 1) shapes)) new, sum_by-cons w (place, shape_view x) new);
  }

  pub next_put : (old now new : List (ℕ × Shape)) → i < length shapes → x ≡ get_or shapes i x → SameThings now (at_place place (take i shapes) ++ old) → SameThings new ((place, shape_view x) ∷ now)
      → SameThings new (at_place place (take (i + 1) shapes) ++ old)
  next_put old now new below is h k = record {
    sums = λ w.
        let a = h.sums w in
        let b = k.sums w in
        let one = sum_taken w (λ (s : NetShape). (place, shape_view s)) shapes i x below is in
        omega (arith, a, b, one, sum_by-append w (at_place place (take i shapes)) old, sum_by-append w (at_place place (take (i + 1) shapes)) old, sum_by-cons w (place, shape_view x) now);
  }

-- at the end all of them
pub all_of : (place : ℕ) (shapes : List NetShape) (i : ℕ) (all rest : List (ℕ × Shape)) → length shapes ≤ i → SameThings all (at_place place (take i shapes) ++ rest) → SameThings all (at_place place shapes ++ rest)
all_of place shapes i all rest past h = rw (take_all i shapes past) at h
