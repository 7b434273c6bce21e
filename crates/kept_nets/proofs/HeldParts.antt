-- The shapes of a net's parts in a set by tiles, and how many of them are near each other and meet.
use Rattle.std.proofs.Common.{◌≡◌, ◌∙◌, ◌≤◌, ◌<◌, ◌+◌, ◌-◌, ℕ, suc, Bool, true, cond, List, [], ◌∷◌, ◌++◌, map, filter, length, refl, sym, ap, arith, sum_by}
use Rattle.std.specs.Prelude.{flat_map}
use Rattle.std.proofs.lemmas.List.{append_assoc, map-append}
use Rattle.std.proofs.lemmas.List.Sums.{sum_by-append}
use Rattle.design_model.specs.declared.identifier.ShapeId.{ShapeId}
use Rattle.lef_grammar.specs.Measures.{Shape}
use Rattle.connection_rules.specs.NetParts.{Part}
use Rattle.line_laws.specs.Lines.{SameThings}
use Rattle.net_lists.specs.Counts.{shape_count}
use Rattle.net_lists.specs.PartCuts.{parts_of, shape_view}
use Rattle.net_lists.specs.declared.parts.NetShape.{NetShape}
use Rattle.net_lists.specs.declared.parts.PartHead.{PartHead}
use Rattle.net_lists.proofs.ShapeLemmas.{shapes_in, shapes_in_parts}
use Rattle.net_queries.specs.Held.{HoldsParts, held_from, is_among, shape_of, shapes_from}
use Rattle.net_queries.proofs.Sums.{sums_mapped, sums_same, sums_tested}
use Rattle.placed_shapes.specs.Placed.{placed_shape, placed_shapes, stored}
use Rattle.shape_index.specs.Near.{met_shape, near_shape}
use Rattle.shape_index.specs.Shapes.{met_count}
use Rattle.shape_index.specs.Tiles.{near_count}
use Rattle.shape_index.specs.declared.shape.Shape.{Shape as Stored}
use Rattle.kept_nets.specs.NearParts.{met_in_parts, near_in_parts}

abbrev Placed : Type 0
Placed = ℕ × Shape

-- shapes of one part, as code has them and as a set does
own_stored : (n : ℕ) (shapes : List NetShape) → map placed_shape (map (stored n) shapes) ≡ map (λ s. (n, s)) (map shape_view shapes)
own_stored n [] = refl
own_stored n (s ∷ shapes) = ap (λ (l : List Placed). (n, shape_view s) ∷ l) (own_stored n shapes)

-- the shapes of the next part stand behind those before
pub next_numbered : (n : ℕ) (own : List NetShape) (pushed pushed_then : List Stored) (parts left : List Part) (part : Part) (all : List Placed) → pushed_then ≡ pushed ++ map (stored n) own
    → part.shapes ≡ map shape_view own → parts ≡ part ∷ left → map placed_shape pushed ++ shapes_from n parts ≡ all → map placed_shape pushed_then ++ shapes_from (n + 1) left ≡ all
next_numbered n own pushed pushed_then parts left part all put is first had =
    let next : n + 1 ≡ suc n = omega arith in
    ap (λ k. map placed_shape pushed_then ++ shapes_from k left) next
    ∙ ap (λ (l : List Stored). map placed_shape l ++ shapes_from (suc n) left) put
    ∙ ap (λ (l : List Placed). l ++ shapes_from (suc n) left) (map-append placed_shape pushed (map (stored n) own) ∙ ap (λ (l : List Placed). map placed_shape pushed ++ l) (own_stored n own ∙ ap (map (λ s. (n, s))) (sym is)))
    ∙ append_assoc (map placed_shape pushed) (map (λ s. (n, s)) part.shapes) (shapes_from (suc n) left)
    ∙ ap (λ (ps : List Part). map placed_shape pushed ++ shapes_from n ps) (sym first)
    ∙ had

-- what shapes weigh whose numbers are among these, where they are all
module _ (n : ℕ) (w : Placed → ℕ) where
  abbrev among : Placed → ℕ
  among p = cond (is_among 0 n p.0) (w (p.0 - 0, p.1)) 0

  of_part : (k : ℕ) (ss : List Shape) → k < n → sum_by among (map (λ s. (k, s)) ss) ≡ sum_by w (map (λ s. (k, s)) ss)
  of_part k ss below =
      let t : is_among 0 n k ≡ true = grind (arith, below) in
      let e : k - 0 ≡ k = omega arith in
      sums_mapped among (λ (s : Shape). (k, s)) ss
      ∙ sums_same (λ s. among (k, s)) (λ s. w (k, s)) (λ s. ap (λ (b : Bool). cond b (w (k - 0, s)) 0) t ∙ ap (λ (j : ℕ). w (j, s)) e) ss
      ∙ sym (sums_mapped w (λ (s : Shape). (k, s)) ss)

  of_all : (k : ℕ) (ps : List Part) → k + length ps ≤ n → sum_by among (shapes_from k ps) ≡ sum_by w (shapes_from k ps)
  of_all k [] few = refl
  of_all k (p ∷ ps) few =
      let here = of_part k p.shapes (omega (arith, few)) in
      let later = of_all (suc k) ps (omega (arith, few)) in
      omega (arith, here, later, sum_by-append among (map (λ s. (k, s)) p.shapes) (shapes_from (suc k) ps), sum_by-append w (map (λ s. (k, s)) p.shapes) (shapes_from (suc k) ps))

  held : (es : List (ShapeId × Stored)) → sum_by w (held_from 0 n es) ≡ sum_by among (placed_shapes es)
  held es =
      sums_mapped w (λ (e : ShapeId × Stored). (e.1.net - 0, shape_of e.1)) (filter (λ e. is_among 0 n e.1.net) es)
      ∙ sums_tested (λ e. w (e.1.net - 0, shape_of e.1)) (λ e. is_among 0 n e.1.net) es
      ∙ sym (sums_mapped among (λ (e : ShapeId × Stored). placed_shape e.1) es)

-- a set of the shapes of all parts holds these
pub holds_parts : (ps : List Part) (es : List (ShapeId × Stored)) → SameThings (placed_shapes es) (shapes_from 0 ps) → HoldsParts 0 ps es
holds_parts ps es same = record {
  same = record { sums = λ w. held (length ps) w es ∙ same.sums (among (length ps) w) ∙ of_all (length ps) w 0 ps (omega arith) };
}

-- shapes of a set that pass a test with another
module _ (test : Shape → Shape → Bool) where
  abbrev one : Shape → Shape → ℕ
  one s t = cond (test s t) 1 0

  -- as many as were stored
  as_stored : (s : NetShape) (es : List (ShapeId × Stored)) → sum_by (λ (e : ShapeId × Stored). one (shape_view s) (placed_shape e.1).1) es ≡ sum_by (λ (p : Placed). one (shape_view s) p.1) (placed_shapes es)
  as_stored s es = sym (sums_mapped (λ (p : Placed). one (shape_view s) p.1) (λ (e : ShapeId × Stored). placed_shape e.1) es)

  in_parts : (s : Shape) (n : ℕ) (ps : List Part) → sum_by (λ (p : Placed). one s p.1) (shapes_from n ps) ≡ sum_by (one s) (flat_map shapes_in ps)
  in_parts s n [] = refl
  in_parts s n (p ∷ ps) =
      let later = in_parts s (suc n) ps in
      let here = sums_mapped (λ (q : Placed). one s q.1) (λ (t : Shape). (n, t)) p.shapes in
      omega (
        arith,
        here,
        later,
        sum_by-append (λ (q : Placed). one s q.1) (map (λ t. (n, t)) p.shapes) (shapes_from (suc n) ps),
        sum_by-append (one s) p.shapes (flat_map shapes_in ps),
      )

  each_with_all : (hs : List PartHead) (ss : List NetShape) (es : List (ShapeId × Stored)) → sum_by shape_count hs ≡ length ss → SameThings (placed_shapes es) (shapes_from 0 (parts_of hs ss))
      → sum_by (λ (s : NetShape). sum_by (λ (e : ShapeId × Stored). one (shape_view s) (placed_shape e.1).1) es) ss
      ≡ sum_by (λ (s : Shape). sum_by (one s) (flat_map shapes_in (parts_of hs ss))) (flat_map shapes_in (parts_of hs ss))
  each_with_all hs ss es whole same =
      let own = map shape_view ss in
      let ps = parts_of hs ss in
      let all : flat_map shapes_in ps ≡ own = shapes_in_parts hs ss whole in
      sums_same (λ (s : NetShape). sum_by (λ (e : ShapeId × Stored). one (shape_view s) (placed_shape e.1).1) es) (λ (s : NetShape). sum_by (one (shape_view s)) own)
      (λ s. as_stored s es ∙ same.sums (λ (p : Placed). one (shape_view s) p.1) ∙ in_parts (shape_view s) 0 ps ∙ ap (sum_by (one (shape_view s))) all) ss
      ∙ sym (sums_mapped (λ (s : Shape). sum_by (one s) own) shape_view ss)
      ∙ sym (ap (λ (l : List Shape). sum_by (λ (s : Shape). sum_by (one s) l) l) all)

-- no more are compared than are near each other
pub few_compared : (hs : List PartHead) (ss : List NetShape) (es : List (ShapeId × Stored)) → sum_by shape_count hs ≡ length ss
    → SameThings (placed_shapes es) (shapes_from 0 (parts_of hs ss)) → sum_by (λ (s : NetShape). near_count s.layer s.rect es) ss ≡ near_in_parts (parts_of hs ss)
few_compared hs ss es whole same = each_with_all near_shape hs ss es whole same

-- and no fewer than meet
pub met_compared : (hs : List PartHead) (ss : List NetShape) (es : List (ShapeId × Stored)) → sum_by shape_count hs ≡ length ss
    → SameThings (placed_shapes es) (shapes_from 0 (parts_of hs ss)) → sum_by (λ (s : NetShape). met_count s.layer s.rect es) ss ≡ met_in_parts (parts_of hs ss)
met_compared hs ss es whole same = each_with_all met_shape hs ss es whole same
