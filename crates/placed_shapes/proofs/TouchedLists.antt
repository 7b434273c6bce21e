-- The places of the owners of shapes that touch others.
use Rattle.std.proofs.Common.{◌≡◌, ◌∙◌, ◌<◌, ◌≤◌, ◌+◌, ℕ, Bool, true, false, cond, List, [], ◌∷◌, ◌++◌, Result, refl, sym, ap, append_assoc, arith, drop, get_or, length, map, subst, sum_by}
use Rattle.std.specs.Prelude.{IfOk, filter, flat_map}
use Rattle.std.proofs.lemmas.List.{append-nil, drop_all, drop_more, map-append}
use Rattle.std.proofs.lemmas.List.Sums.{sum_by-append}
use Rattle.design_model.specs.declared.identifier.ShapeId.{ShapeId}
use Rattle.lef_grammar.specs.Measures.{Shape}
use Rattle.line_laws.specs.Lines.{SameThings}
use Rattle.line_laws.proofs.SameSums.{maps_are_same}
use Rattle.connection_rules.specs.PartClasses.{touch}
use Rattle.net_lists.specs.PartCuts.{shape_view}
use Rattle.net_lists.specs.declared.parts.NetShape.{NetShape}
use Rattle.net_queries.specs.Held.{shape_of}
use Rattle.shape_index.specs.declared.shape.Shape.{Shape as Stored}
use Rattle.shape_index.specs.Pushing.{Pushes}
use Rattle.shape_index.specs.Shapes.{met_by}
use Rattle.shape_index.proofs.Pushed.{Holds, pushed}
use Rattle.placed_shapes.specs.Placed.{placed_shape, placed_shapes, touched_by}

abbrev Entry : Type 0
Entry = ShapeId × Stored

abbrev pub places_of : List Entry → List ℕ
places_of es = map (λ e. e.1.net) es

-- one place more is pushed
pub one_pushed : {V E : Type 0} (items : V → List ℕ) (q r : Result V E) (before : List ℕ) (e : Entry) (xs : List Entry) → Holds items (before ++ places_of xs) q → IfOk r (λ v. Pushes items q e.1.net (items v))
    → Holds items (before ++ places_of (xs ++ e ∷ [])) r
one_pushed items q r before e xs h k =
    let more : before ++ places_of (xs ++ e ∷ []) ≡ (before ++ places_of xs) ++ e.1.net ∷ [] =
    ap (λ (ns : List ℕ). before ++ ns) (map-append (λ (e : Entry). e.1.net) xs (e ∷ [])) ∙ sym (append_assoc before (places_of xs) (e.1.net ∷ [])) in
    rw more (pushed items q r e.1.net (before ++ places_of xs) h k)

abbrev touching_in : NetShape → List Entry → List (ℕ × Shape)
touching_in s es = filter (λ p. touch p.1 (shape_view s)) (placed_shapes es)

-- the shapes that are met are those that touch
met_places : (s : NetShape) (es : List Entry) → places_of (met_by s.layer s.rect es) ≡ touched_by (placed_shapes es) (shape_view s)
met_places s [] = refl
met_places s (e ∷ es) = by (touch (shape_of e.1) (shape_view s)) (met_places s es)
  where
    by : (b : Bool) → places_of (met_by s.layer s.rect es) ≡ touched_by (placed_shapes es) (shape_view s)
        → places_of (cond b (e ∷ met_by s.layer s.rect es) (met_by s.layer s.rect es)) ≡ map (λ p. p.0) (cond b (placed_shape e.1 ∷ touching_in s es) (touching_in s es))
    by true later = ap (λ (ns : List ℕ). e.1.net ∷ ns) later
    by false later = later

pub met_are_touched : (s : NetShape) (before : List ℕ) (es met : List Entry) (placed : List (ℕ × Shape)) → placed_shapes es ≡ placed → SameThings met (met_by s.layer s.rect es)
    → SameThings (before ++ places_of met) (before ++ touched_by placed (shape_view s))
met_are_touched s before es met placed is h = record {
  sums = λ w.
      let same = (maps_are_same Entry ℕ (λ e. e.1.net) met (met_by s.layer s.rect es) h).sums w in
      let those = ap (sum_by w) (met_places s es ∙ ap (λ (ps : List (ℕ × Shape)). touched_by ps (shape_view s)) is) in
      omega (arith, same, those, sum_by-append w before (places_of met), sum_by-append w before (touched_by placed (shape_view s)));
}

module _ (placed : List (ℕ × Shape)) where
  -- the places of shapes that touch some of these
  abbrev pub touching : List NetShape → List ℕ
  touching shapes = flat_map (touched_by placed) (map shape_view shapes)

  one_touched : (x : NetShape) (rest : List NetShape) (now next all : List ℕ) → SameThings (now ++ touching (x ∷ rest)) all → SameThings next (now ++ touched_by placed (shape_view x))
      → SameThings (next ++ touching rest) all
  one_touched x rest now next all h k = record {
    sums = λ w.
        let mine = touched_by placed (shape_view x) in
        let a = h.sums w in
        let b = k.sums w in
        omega (arith, a, b, sum_by-append w now (touching (x ∷ rest)), sum_by-append w mine (touching rest), sum_by-append w next (touching rest), sum_by-append w now mine);
  }

  -- shape by shape
  pub next_touched : (shapes : List NetShape) (i : ℕ) (x : NetShape) (now next all : List ℕ) → i < length shapes → x ≡ get_or shapes i x → SameThings (now ++ touching (drop i shapes)) all
      → SameThings next (now ++ touched_by placed (shape_view x)) → SameThings (next ++ touching (drop (i + 1) shapes)) all
  next_touched shapes i x now next all below is h k =
      let left = drop_more shapes i x below ∙ ap (λ (y : NetShape). y ∷ drop (i + 1) shapes) (sym is) in
      one_touched x (drop (i + 1) shapes) now next all (subst (λ (l : List NetShape). SameThings (now ++ touching l) all) left h) k

  pub all_touched : (shapes : List NetShape) (i : ℕ) (now all : List ℕ) → length shapes ≤ i → SameThings (now ++ touching (drop i shapes)) all → SameThings now all
  all_touched shapes i now all past h =
      subst (λ (ns : List ℕ). SameThings ns all) (ap (λ (l : List NetShape). now ++ touching l) (drop_all i shapes past) ∙ append-nil now) h
