-- How many shapes of a set are near others, and how many meet them.
use Rattle.std.proofs.Common.{◌≡◌, ◌∙◌, ◌<◌, ◌≤◌, ◌+◌, ◌-◌, ◌^◌, ℕ, min, cond, List, [], ◌∷◌, length, map, refl, sym, ap, arith, drop, get_or, sum_by}
use Rattle.std.proofs.lemmas.List.{drop_all, drop_more}
use Rattle.std.proofs.lemmas.List.Sums.{sum_by-cons}
use Rattle.design_model.specs.declared.identifier.ShapeId.{ShapeId}
use Rattle.lef_grammar.specs.Measures.{Shape}
use Rattle.net_lists.specs.PartCuts.{shape_view}
use Rattle.net_lists.specs.declared.parts.NetShape.{NetShape}
use Rattle.shape_index.specs.Near.{met_shape, met_shapes, near_shape, near_shapes}
use Rattle.shape_index.specs.Shapes.{met_count}
use Rattle.shape_index.specs.Tiles.{near_count}
use Rattle.shape_index.specs.declared.shape.Shape.{Shape as Stored}
use Rattle.placed_shapes.specs.Placed.{placed_shape, placed_shapes}

-- as many as were stored
pub near_placed : (s : NetShape) (es : List (ShapeId × Stored)) → near_count s.layer s.rect es ≡ near_shapes (shape_view s) (map (λ p. p.1) (placed_shapes es))
near_placed s [] = refl
near_placed s (e ∷ es) =
    let later = near_placed s es in
    omega (
      arith,
      later,
      sum_by-cons (λ (x : ShapeId × Stored). cond (near_shape (shape_view s) (placed_shape x.1).1) 1 0) e es,
      sum_by-cons (λ (t : Shape). cond (near_shape (shape_view s) t) 1 0) (placed_shape e.1).1 (map (λ p. p.1) (placed_shapes es)),
    )

pub met_placed : (s : NetShape) (es : List (ShapeId × Stored)) → met_count s.layer s.rect es ≡ met_shapes (shape_view s) (map (λ p. p.1) (placed_shapes es))
met_placed s [] = refl
met_placed s (e ∷ es) =
    let later = met_placed s es in
    omega (
      arith,
      later,
      sum_by-cons (λ (x : ShapeId × Stored). cond (met_shape (shape_view s) (placed_shape x.1).1) 1 0) e es,
      sum_by-cons (λ (t : Shape). cond (met_shape (shape_view s) t) 1 0) (placed_shape e.1).1 (map (λ p. p.1) (placed_shapes es)),
    )

-- shape by shape
pub next_tested : (near : Shape → ℕ) (shapes : List NetShape) (i : ℕ) (x : NetShape) (now one next all : ℕ) → i < length shapes → x ≡ get_or shapes i x → one ≤ near (shape_view x) → next ≤ now + one
    → now + sum_by near (map shape_view (drop i shapes)) ≤ all → next + sum_by near (map shape_view (drop (i + 1) shapes)) ≤ all
next_tested near shapes i x now one next all below is few step h =
    let left = ap (λ (l : List NetShape). sum_by near (map shape_view l)) (drop_more shapes i x below ∙ ap (λ (y : NetShape). y ∷ drop (i + 1) shapes) (sym is)) in
    omega (arith, left, few, step, h, sum_by-cons near (shape_view x) (map shape_view (drop (i + 1) shapes)))

-- and what is counted at least, where a count ends at 2 ^ 64 - 1
pub next_least : (met : Shape → ℕ) (shapes : List NetShape) (i : ℕ) (x : NetShape) (now one next all : ℕ) → i < length shapes → x ≡ get_or shapes i x → met (shape_view x) ≤ one → min (now + one) (2 ^ 64 - 1) ≤ next
    → min all (2 ^ 64 - 1) ≤ now + sum_by met (map shape_view (drop i shapes)) → min all (2 ^ 64 - 1) ≤ next + sum_by met (map shape_view (drop (i + 1) shapes))
next_least met shapes i x now one next all below is some step h =
    let left = ap (λ (l : List NetShape). sum_by met (map shape_view l)) (drop_more shapes i x below ∙ ap (λ (y : NetShape). y ∷ drop (i + 1) shapes) (sym is)) in
    omega (arith, left, some, step, h, sum_by-cons met (shape_view x) (map shape_view (drop (i + 1) shapes)))

pub all_least : (met : Shape → ℕ) (shapes : List NetShape) (i now all : ℕ) → length shapes ≤ i → min all (2 ^ 64 - 1) ≤ now + sum_by met (map shape_view (drop i shapes)) → min all (2 ^ 64 - 1) ≤ now
all_least met shapes i now all past h = omega (arith, ap (λ (l : List NetShape). sum_by met (map shape_view l)) (drop_all i shapes past), h)
