-- The shapes of parts under the parts' places, while parts come and go.
use Rattle.std.proofs.Common.{◌≡◌, ◌∙◌, ◌<◌, ◌≤◌, ◌+◌, ◌-◌, ℕ, zero, suc, List, [], ◌∷◌, ◌++◌, refl, sym, ap, append_assoc, arith, drop, get_or, length, map, set, sum_by, take}
use Rattle.std.specs.Prelude.{◌==◌, ◌≢◌}
use Rattle.std.specs.List.{swap_remove}
use Rattle.std.proofs.lemmas.Grind.{get_or-set_at}
use Rattle.std.proofs.lemmas.List.{append-nil, drop_all, drop_more, get_or-set_other, get_or-set_same, get_or-take, length-set, length-take-le, map-append}
use Rattle.std.proofs.lemmas.List.Sums.{sum_by-append}
use Rattle.lef_grammar.specs.Measures.{Shape}
use Rattle.connection_rules.specs.NetParts.{Part}
use Rattle.line_laws.specs.Lines.{SameThings}
use Rattle.net_lists.specs.PartCuts.{shape_view}
use Rattle.net_lists.specs.declared.parts.NetShape.{NetShape}
use Rattle.net_queries.specs.Held.{shapes_from}
use Rattle.placed_shapes.specs.Placed.{at_place, placed_shape, stored}
use Rattle.shape_index.specs.declared.shape.Shape.{Shape as Stored}
use Rattle.kept_nets.specs.Kept.{AreShapesOf}
use Rattle.kept_nets.specs.Parts.{part_view}
use Rattle.kept_nets.specs.declared.part.KeptPart.{KeptPart}
use Rattle.kept_nets.proofs.Sums.{split}

abbrev Placed : Type 0
Placed = ℕ × Shape

-- the shapes of a part under a place
abbrev own : ℕ → Part → List Placed
own n p = map (λ s. (n, s)) p.shapes

-- one more part behind others
more_behind : (w : Placed → ℕ) (n : ℕ) (ps : List Part) (p : Part) → sum_by w (shapes_from n (ps ++ p ∷ [])) ≡ sum_by w (shapes_from n ps) + sum_by w (own (n + length ps) p)
more_behind w n [] p =
    let at : n ≡ n + 0 = omega arith in
    omega (arith, sum_by-append w (own n p) [], ap (λ k. sum_by w (own k p)) at)
more_behind w n (q ∷ ps) p =
    let rest = more_behind w (suc n) ps p in
    let at : suc n + length ps ≡ n + suc (length ps) = omega arith in
    omega (arith, rest, ap (λ k. sum_by w (own k p)) at, sum_by-append w (own n q) (shapes_from (suc n) (ps ++ p ∷ [])), sum_by-append w (own n q) (shapes_from (suc n) ps))

pub with_one_more : (ps : List Part) (p : Part) (place : ℕ) (old new : List Placed) → length ps ≡ place → SameThings old (shapes_from 0 ps) → SameThings new (own place p ++ old) → SameThings new (shapes_from 0 (ps ++ p ∷ []))
with_one_more ps p place old new is h k = record {
  sums = λ w.
      let a = h.sums w in
      let b = k.sums w in
      let at : 0 + length ps ≡ place = omega (arith, is) in
      omega (arith, a, b, sum_by-append w (own place p) old, more_behind w 0 ps p, ap (λ n. sum_by w (own n p)) at);
}

module _ {X : Type 0} (f : X → Part) (w : Placed → ℕ) where
  -- what the shapes of parts weigh from a place on, and those of one
  abbrev all : ℕ → List X → ℕ
  all n xs = sum_by w (shapes_from n (map f xs))

  abbrev one : ℕ → X → ℕ
  one n x = sum_by w (own n (f x))

  first_and_others : (n : ℕ) (x : X) (xs : List X) → all n (x ∷ xs) ≡ one n x + all (suc n) xs
  first_and_others n x xs = sum_by-append w (own n (f x)) (shapes_from (suc n) (map f xs))

  -- one is exchanged
  exchanged : (n i k : ℕ) (xs : List X) (y d : X) → n + i ≡ k → i < length xs → all n (set xs i y) + one k (get_or xs i d) ≡ all n xs + one k y
  exchanged n i k [] y d is below = absurd (omega (arith, below))
  exchanged n zero k (x ∷ xs) y d is below =
      let here : n ≡ k = omega (arith, is) in
      omega (arith, first_and_others n x xs, first_and_others n y xs, ap (λ m. one m x) here, ap (λ m. one m y) here)
  exchanged n (suc i) k (x ∷ xs) y d is below =
      let rest = exchanged (suc n) i k xs y d (omega (arith, is)) (omega (arith, below)) in
      omega (arith, rest, first_and_others n x xs, first_and_others n x (set xs i y))

  -- the last is left out
  shortened : (n j k : ℕ) (xs : List X) (d : X) → n + j ≡ k → suc j ≡ length xs → all n (take j xs) + one k (get_or xs j d) ≡ all n xs
  shortened n j k [] d is last = absurd (omega (arith, last))
  shortened n zero k (x ∷ []) d is last =
      let here : n ≡ k = omega (arith, is) in
      omega (arith, first_and_others n x [], ap (λ m. one m x) here)
  shortened n zero k (x ∷ y ∷ xs) d is last = absurd (omega (arith, last))
  shortened n (suc j) k (x ∷ xs) d is last =
      let rest = shortened (suc n) j k xs d (omega (arith, is)) (omega (arith, last)) in
      omega (arith, rest, first_and_others n x xs, first_and_others n x (take j xs))

-- what stands at the last place once that is put at another too
last_stays : {X : Type 0} (xs : List X) (i j : ℕ) (d : X) → i < length xs → get_or (set xs i (get_or xs j d)) j d ≡ get_or xs j d
last_stays xs i j d below =
    split (i == j)
    (λ t. let same : j ≡ i = grind (arith, t) in get_or-set_at xs i j (get_or xs j d) d same below)
    (λ t. let other : j ≢ i = grind (arith, t) in get_or-set_other xs i j (get_or xs j d) d other)

module _ {X : Type 0} (f : X → Part) (xs : List X) (i : ℕ) (gone : X) (below : i < length xs) (is : get_or xs i gone ≡ gone) where
  abbrev last : ℕ
  last = length xs - 1

  -- the part that was the last
  abbrev mover : X
  mover = get_or xs last gone

  abbrev rest : List X
  rest = swap_remove xs i gone

  length_rest : length rest ≡ last
  length_rest = let a = length-set xs i mover in length-take-le last (set xs i mover) (omega (arith, a))

  weighs : (w : Placed → ℕ) → all f w 0 rest + one f w last mover + one f w i gone ≡ all f w 0 xs + one f w i mover
  weighs w =
      let a = exchanged f w 0 i i xs mover gone (omega arith) below in
      let b = shortened f w 0 last last (set xs i mover) gone (omega arith) (omega (arith, below, length-set xs i mover)) in
      let end = ap (one f w last) (last_stays xs i last gone below) in
      let first = ap (one f w i) is in
      omega (arith, a, b, end, first)

  -- the last part goes
  pub last_gone : (old new : List Placed) → length rest ≤ i → SameThings old (shapes_from 0 (map f xs)) → SameThings old (own i (f gone) ++ new) → SameThings new (shapes_from 0 (map f rest))
  last_gone old new end h k = record {
    sums = λ w.
        let a = h.sums w in
        let b = k.sums w in
        let at : last ≡ i = omega (arith, length_rest, end, below) in
        let c = ap (λ n. one f w n mover) at in
        omega (arith, a, b, c, weighs w, sum_by-append w (own i (f gone)) new);
  }

  moved_is : (m : X) → i < length rest → get_or rest i m ≡ m → mover ≡ m
  moved_is m within at =
      let short : i < last = omega (arith, length_rest, within) in
      sym (get_or-set_same xs i mover m below) ∙ sym (get_or-take last (set xs i mover) i m short) ∙ at

  -- or another one does, and the last takes its place
  pub another_gone : (m : X) (old left less new : List Placed) → i < length rest → get_or rest i m ≡ m → SameThings old (shapes_from 0 (map f xs)) → SameThings old (own i (f gone) ++ left)
      → SameThings left (own (length rest) (f m) ++ less) → SameThings new (own i (f m) ++ less) → SameThings new (shapes_from 0 (map f rest))
  another_gone m old left less new within at h k l n = record {
    sums = λ w.
        let mine = moved_is m within at in
        let a = h.sums w in
        let b = k.sums w in
        let c = l.sums w in
        let d = n.sums w in
        let e = ap (λ k. one f w k m) length_rest in
        let g = ap (one f w last) mine in
        let j = ap (one f w i) mine in
        omega (arith, a, b, c, d, e, g, j, weighs w, sum_by-append w (own i (f gone)) left, sum_by-append w (own (length rest) (f m)) less, sum_by-append w (own i (f m)) less);
  }

-- the same shapes as code has them, and as a set does
own_views : (n : ℕ) (shapes : List NetShape) → at_place n shapes ≡ map (λ s. (n, s)) (map shape_view shapes)
own_views n [] = refl
own_views n (s ∷ shapes) = ap (λ l. (n, shape_view s) ∷ l) (own_views n shapes)

own_stored : (n : ℕ) (shapes : List NetShape) → map placed_shape (map (stored n) shapes) ≡ map (λ s. (n, s)) (map shape_view shapes)
own_stored n [] = refl
own_stored n (s ∷ shapes) = ap (λ l. (n, shape_view s) ∷ l) (own_stored n shapes)

module _ {A : Type 0} where
  -- the shapes of the next part stand behind those before
  pub next_placed : (parts : List (KeptPart A)) (i : ℕ) (part : KeptPart A) (old new : List Stored) → i < length parts → part ≡ get_or parts i part → new ≡ old ++ map (stored i) part.shapes.items
      → map placed_shape old ++ shapes_from i (map part_view (drop i parts)) ≡ shapes_from 0 (map part_view parts)
      → map placed_shape new ++ shapes_from (i + 1) (map part_view (drop (i + 1) parts)) ≡ shapes_from 0 (map part_view parts)
  next_placed parts i part old new below is pushed h =
      let left : drop i parts ≡ part ∷ drop (i + 1) parts = drop_more parts i part below ∙ ap (λ y. y ∷ drop (i + 1) parts) (sym is) in
      let after = shapes_from (suc i) (map part_view (drop (i + 1) parts)) in
      let next : i + 1 ≡ suc i = omega arith in
      ap (λ k. map placed_shape new ++ shapes_from k (map part_view (drop (i + 1) parts))) next
      ∙ ap (λ l. map placed_shape l ++ after) pushed
      ∙ ap (λ l. l ++ after) (map-append placed_shape old (map (stored i) part.shapes.items) ∙ ap (λ l. map placed_shape old ++ l) (own_stored i part.shapes.items))
      ∙ append_assoc (map placed_shape old) (map (λ s. (i, s)) (map shape_view part.shapes.items)) after
      ∙ ap (λ l. map placed_shape old ++ shapes_from i (map part_view l)) (sym left)
      ∙ h

  pub all_placed : (parts : List (KeptPart A)) (i : ℕ) (pushed : List Stored) (shapes : List Placed) → length parts ≤ i
      → map placed_shape pushed ++ shapes_from i (map part_view (drop i parts)) ≡ shapes_from 0 (map part_view parts) → SameThings shapes (map placed_shape pushed) → AreShapesOf (map part_view parts) shapes
  all_placed parts i pushed shapes past h same =
      let none : drop i parts ≡ [] = drop_all i parts past in
      let all : map placed_shape pushed ≡ shapes_from 0 (map part_view parts) = sym (append-nil (map placed_shape pushed)) ∙ ap (λ l. map placed_shape pushed ++ shapes_from i (map part_view l)) (sym none) ∙ h in
      record { same = record { sums = λ w. same.sums w ∙ ap (sum_by w) all } }

  -- one more part
  pub last_put : (part : KeptPart A) (place : ℕ) (old new : List Placed) → SameThings new (at_place place part.shapes.items ++ old) → (ps : List Part) → length ps ≡ place → AreShapesOf ps old → AreShapesOf (ps ++ part_view part ∷ []) new
  last_put part place old new put = λ ps is h. record { same = with_one_more ps (part_view part) place old new is h.same (rw (← own_views place part.shapes.items) put) }

  module _ (before : List (KeptPart A)) (i : ℕ) (gone : KeptPart A) (below : i < length before) (is : get_or before i gone ≡ gone) (after : List (KeptPart A)) (left : after ≡ swap_remove before i gone) where
    -- the last part is taken out
    pub last_taken : (old new : List Placed) → length after ≤ i → AreShapesOf (map part_view before) old → SameThings old (at_place i gone.shapes.items ++ new) → AreShapesOf (map part_view after) new
    last_taken old new end h k =
        rw (left) (record { same = last_gone part_view before i gone below is old new (rw left at end) h.same (rw (← own_views i gone.shapes.items) k) })

    -- or another one is
    pub another_taken : (m : KeptPart A) (old rest less new : List Placed) → i < length after → get_or after i m ≡ m → AreShapesOf (map part_view before) old → SameThings old (at_place i gone.shapes.items ++ rest)
        → SameThings rest (at_place (length after) m.shapes.items ++ less) → SameThings new (at_place i m.shapes.items ++ less) → AreShapesOf (map part_view after) new
    another_taken m old rest less new within at h k l n =
        rw (left) (record {
          same = another_gone part_view before i gone below is m old rest less new (rw left at within) (rw left at at) h.same
              (rw (← own_views i gone.shapes.items) k)
              (rw (← own_views (length (swap_remove before i gone)) m.shapes.items) (rw left at l))
              (rw (← own_views i m.shapes.items) n);
        })
