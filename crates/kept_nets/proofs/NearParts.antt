-- The parts that one is joined to stand at the places whose shapes touch its own.
use Rattle.std.proofs.Common.{◌≡◌, ◌∙◌, ◌<◌, ◌+◌, ℕ, zero, suc, Bool, true, false, cond, ◌&&◌, List, [], ◌∷◌, ◌++◌, Some, refl, sym, ap₂, subst, arith, length, map, filter, flat_map, sum_by}
use Rattle.std.specs.Prelude.{◌==◌, count_by, slice_get}
use Rattle.std.specs.Int.Signed.{le_z}
use Rattle.std.specs.List.{list_any}
use Rattle.std.proofs.lemmas.List.Sums.{sum_by-append, sum_by-cons}
use Rattle.lef_grammar.specs.Measures.{Shape}
use Rattle.connection_rules.specs.NetParts.{Part}
use Rattle.connection_rules.specs.PartClasses.{are_joined, touch}
use Rattle.line_laws.specs.Lines.{SameThings}
use Rattle.net_queries.specs.Held.{shapes_from}
use Rattle.placed_shapes.specs.Placed.{touched_by}
use Rattle.class_laws.specs.OneMore.{AreJoinedAt, joined_to}
use Rattle.kept_nets.proofs.Sums.{some_count, split, sum_by-filter, sum_by-flat_map, sum_by-map, sum_by-same}

and_turns : (a b : Bool) → (a && b) ≡ (b && a)
and_turns true true = refl
and_turns true false = refl
and_turns false true = refl
and_turns false false = refl

same_turns : (a b : ℕ) → (a == b) ≡ (b == a)
same_turns a b = split (a == b)
    (λ t. let u : (b == a) ≡ true = grind (arith, t) in t ∙ sym u)
    (λ t. let u : (b == a) ≡ false = grind (arith, t) in t ∙ sym u)

-- shapes touch each other
touch_turns : (a b : Shape) → touch a b ≡ touch b a
touch_turns a b = ap₂ (λ (s t : Bool). s && t) (same_turns a.layer b.layer) (ap₂ (λ (s t : Bool). s && t) (and_turns (le_z a.box.x1 b.box.x2) (le_z b.box.x1 a.box.x2)) (and_turns (le_z a.box.y1 b.box.y2) (le_z b.box.y1 a.box.y2)))

-- whether a place's number is that of a shape that touches one
abbrev at_touching : ℕ → Shape → ℕ × Shape → ℕ
at_touching i a p = cond (touch p.1 a) (cond (p.0 == i) 1 0) 0

touched_times : (i : ℕ) (placed : List (ℕ × Shape)) (a : Shape) → count_by (λ k. k == i) (touched_by placed a) ≡ sum_by (at_touching i a) placed
touched_times i placed a =
    sum_by-map (λ (k : ℕ). cond {A = ℕ} (k == i) 1 0) (λ (p : ℕ × Shape). p.0) (filter (λ p. touch p.1 a) placed)
    ∙ sum_by-filter (λ (p : ℕ × Shape). cond {A = ℕ} (p.0 == i) 1 0) (λ p. touch p.1 a) placed

itself : (n : ℕ) → (n == n) ≡ true
itself n = grind arith

-- the shapes of one part
own_touch : (n : ℕ) (a : Shape) (shapes : List Shape) → list_any (touch a) shapes ≡ true → 0 < sum_by (at_touching n a) (map (λ s. (n, s)) shapes)
own_touch n a shapes any =
    let some = some_count (λ (s : Shape). at_touching n a (n, s)) (touch a) shapes
    (λ s t. let u = touch_turns s a ∙ t in let v = itself n in rw (u, v) (omega arith)) any in
    omega (arith, some, sum_by-map (at_touching n a) (λ (s : Shape). (n, s)) shapes)

-- and of a part among others
part_touches : (n i k : ℕ) (a : Shape) (ps : List Part) (q : Part) → n + i ≡ k → slice_get ps i ≡ Some q → list_any (touch a) q.shapes ≡ true → 0 < sum_by (at_touching k a) (shapes_from n ps)
part_touches n i k a [] q is at any = absurd (cc)
part_touches n zero k a (p ∷ ps) q is at any =
    let same : p ≡ q = cc in
    let here : n ≡ k = omega (arith, is) in
    let own = own_touch n a p.shapes (rw (← same) at any) in
    let own_k : 0 < sum_by (at_touching k a) (map (λ s. (n, s)) p.shapes) = subst (λ m. 0 < sum_by (at_touching m a) (map (λ (s : Shape). (n, s)) p.shapes)) here own in
    omega (arith, own_k, sum_by-append (at_touching k a) (map (λ s. (n, s)) p.shapes) (shapes_from (suc n) ps))
part_touches n (suc i) k a (p ∷ ps) q is at any =
    let rest = part_touches (suc n) i k a ps q (omega (arith, is)) at any in
    omega (arith, rest, sum_by-append (at_touching k a) (map (λ s. (n, s)) p.shapes) (shapes_from (suc n) ps))

-- all parts that a part is joined to stand at the places that its shapes touch
pub joined_are_near : (p : Part) (ps : List Part) (placed : List (ℕ × Shape)) (near : List ℕ) → SameThings placed (shapes_from 0 ps) → SameThings near (flat_map (touched_by placed) p.shapes)
    → AreJoinedAt p ps near
joined_are_near p ps placed near held same = λ i q at joined.
    let is = λ (k : ℕ). cond {A = ℕ} (k == i) 1 0 in
    let some = some_count (λ a. sum_by (at_touching i a) (shapes_from 0 ps)) (λ a. list_any (touch a) q.shapes) p.shapes (λ a any. part_touches 0 i i a ps q (omega arith) at any) joined in
    let all = same.sums is ∙ sum_by-flat_map is (touched_by placed) p.shapes ∙ sum_by-same (λ a. count_by (λ k. k == i) (touched_by placed a)) (λ a. sum_by (at_touching i a) (shapes_from 0 ps)) p.shapes (λ a. touched_times i placed a ∙ held.sums (at_touching i a)) in
    omega (arith, some, all)

-- also where more places stand behind those
pub joined_at_more : (p : Part) (ps : List Part) (near more all : List ℕ) → all ≡ near ++ more → AreJoinedAt p ps near → AreJoinedAt p ps all
joined_at_more p ps near more all is h = λ i q at joined.
    let a = h i q at joined in
    rw is (omega (arith, a, sum_by-append (λ (k : ℕ). cond {A = ℕ} (k == i) 1 0) near more))

-- where no part passes none is counted
none_pass : (test : Part → Bool) (ps : List Part) → ((i : ℕ) (q : Part) → slice_get ps i ≡ Some q → test q ≡ true → ⊥) → count_by test ps ≡ 0
none_pass test [] none = refl
none_pass test (p ∷ ps) none =
    let rest = none_pass test ps (λ i q at t. none (suc i) q at t) in
    split (test p)
    (λ t. absurd (none 0 p refl t))
    (λ t. let none : cond {A = ℕ} (test p) 1 0 ≡ 0 = rw t refl in omega (arith, rest, none, sum_by-cons (λ (q : Part). cond {A = ℕ} (test q) 1 0) p ps))

-- a part that none is near is joined to none
pub none_near : (p : Part) (ps : List Part) (near : List ℕ) → near ≡ [] → AreJoinedAt p ps near → joined_to p ps ≡ 0
none_near p ps near is h = none_pass (are_joined p) ps (λ i q at joined. let a = rw is at (h i q at joined) in omega (arith, a))

-- a list of no length
pub no_places : (near : List ℕ) → length near ≡ 0 → near ≡ []
no_places [] h = refl
no_places (k ∷ near) h = absurd (omega (arith, h))
