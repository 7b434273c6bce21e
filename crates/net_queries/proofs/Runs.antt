-- A run of the parts that a set holds.
use Rattle.std.proofs.Common.{◌≡◌, ◌≤◌, ◌<◌, ◌+◌, ◌-◌, ℕ, suc, Bool, true, false, cond, List, [], ◌∷◌, ◌++◌, map, filter, length, refl, sym, ap, ap₂, ◌∙◌, arith, sum_by}
use Rattle.std.proofs.lemmas.List.{append_assoc, length-append}
use Rattle.std.proofs.lemmas.List.Sums.{sum_by-append}
use Rattle.design_model.specs.declared.identifier.ShapeId.{ShapeId}
use Rattle.lef_grammar.specs.Measures.{Shape}
use Rattle.connection_rules.specs.NetParts.{Part}
use Rattle.shape_index.specs.declared.shape.Shape.{Shape as Stored}
use Rattle.net_queries.specs.Held.{held_from, is_among, shape_of, shapes_from}
use Rattle.net_queries.specs.PieceLaws.{RunsAreHeld}
use Rattle.net_queries.proofs.Joins.{split}
use Rattle.net_queries.proofs.Sums.{sums_mapped, sums_none, sums_same, sums_tested}

shapes_append : (n : ℕ) (ps qs : List Part) → shapes_from n (ps ++ qs) ≡ shapes_from n ps ++ shapes_from (n + length ps) qs
shapes_append n [] qs = ap (λ k. shapes_from k qs) (omega arith)
shapes_append n (p ∷ ps) qs =
    let own : List (ℕ × Shape) = map (λ s. (n, s)) p.shapes in
    let e : suc n + length ps ≡ n + suc (length ps) = omega arith in
    ap (λ us. own ++ us) (shapes_append (suc n) ps qs ∙ ap (λ k. shapes_from (suc n) ps ++ shapes_from k qs) e)
    ∙ sym (append_assoc own (shapes_from (suc n) ps) (shapes_from (n + suc (length ps)) qs))

-- what a run counts of a weight, with its numbers counted from its first
module _ (b c : ℕ) (w : ℕ × Shape → ℕ) where
  abbrev in_run : ℕ × Shape → ℕ
  in_run u = cond (is_among b c u.0) (w (u.0 - b, u.1)) 0

  outside_one : (n : ℕ) (ss : List Shape) → is_among b c n ≡ false → sum_by in_run (map (λ s. (n, s)) ss) ≡ 0
  outside_one n ss h = sums_mapped in_run (λ (s : Shape). (n, s)) ss ∙ sums_none (λ s. in_run (n, s)) (λ s. ap (λ (t : Bool). cond t (w (n - b, s)) 0) h) ss

  outside : (n : ℕ) (ps : List Part) → ((k : ℕ) → n ≤ k → k < n + length ps → is_among b c k ≡ false) → sum_by in_run (shapes_from n ps) ≡ 0
  outside n [] h = refl
  outside n (p ∷ ps) h =
      let here = outside_one n p.shapes (h n (omega arith) (omega arith)) in
      let later = outside (suc n) ps (λ k low high. h k (omega (arith, low)) (omega (arith, high))) in
      omega (arith, here, later, sum_by-append in_run (map (λ s. (n, s)) p.shapes) (shapes_from (suc n) ps))

  inside_one : (k : ℕ) (ss : List Shape) → k < c → sum_by in_run (map (λ s. (b + k, s)) ss) ≡ sum_by w (map (λ s. (k, s)) ss)
  inside_one k ss h =
      let t : is_among b c (b + k) ≡ true = grind (arith, h) in
      let e : b + k - b ≡ k = omega arith in
      sums_mapped in_run (λ (s : Shape). (b + k, s)) ss
      ∙ sums_same (λ s. in_run (b + k, s)) (λ s. w (k, s)) (λ s. ap (λ (t : Bool). cond t (w (b + k - b, s)) 0) t ∙ ap (λ (k : ℕ). w (k, s)) e) ss
      ∙ sym (sums_mapped w (λ (s : Shape). (k, s)) ss)

  inside : (k : ℕ) (ps : List Part) → k + length ps ≤ c → sum_by in_run (shapes_from (b + k) ps) ≡ sum_by w (shapes_from k ps)
  inside k [] h = refl
  inside k (p ∷ ps) h =
      let here = inside_one k p.shapes (omega (arith, h)) in
      let later = inside (suc k) ps (omega (arith, h)) in
      let step : suc (b + k) ≡ b + suc k = omega arith in
      let moved = ap (λ (n : ℕ). sum_by in_run (shapes_from n ps)) step in
      omega (
        arith,
        here,
        later,
        moved,
        sum_by-append in_run (map (λ s. (b + k, s)) p.shapes) (shapes_from (suc (b + k)) ps),
        sum_by-append w (map (λ s. (k, s)) p.shapes) (shapes_from (suc k) ps),
      )

-- the numbers of a run are among all
both_among : (first b c n k : ℕ) → b + c ≤ n → (x : ℕ) → cond (is_among first n k) (cond (is_among b c (k - first)) x 0) 0 ≡ cond (is_among (first + b) c k) x 0
both_among first b c n k few x =
    split (is_among (first + b) c k)
    (λ t. let all : is_among first n k ≡ true = grind (arith, t, few) in
    let own : is_among b c (k - first) ≡ true = grind (arith, t, few) in
    ap₂ (λ p q. cond p (cond q x 0) 0) all own ∙ sym (ap (λ p. cond p x 0) t))
    (λ t. split (is_among first n k)
    (λ u. let other : is_among b c (k - first) ≡ false = split (is_among b c (k - first)) (λ v. absurd (grind (arith, t, u, v, few))) (λ v. v) in
    ap₂ (λ p q. cond p (cond q x 0) 0) u other ∙ sym (ap (λ p. cond p x 0) t))
    (λ u. ap (λ p. cond p (cond (is_among b c (k - first)) x 0) 0) u ∙ sym (ap (λ p. cond p x 0) t)))

run_of : (first b c n : ℕ) (entries : List (ShapeId × Stored)) → b + c ≤ n → (w : ℕ × Shape → ℕ) → sum_by w (held_from (first + b) c entries) ≡ sum_by (in_run b c w) (held_from first n entries)
run_of first b c n entries few w =
    let own : ShapeId × Stored → Bool = λ e. is_among (first + b) c e.1.net in
    let all : ShapeId × Stored → Bool = λ e. is_among first n e.1.net in
    let v = in_run b c w in
    sums_mapped w (λ (e : ShapeId × Stored). (e.1.net - (first + b), shape_of e.1)) (filter own entries)
    ∙ sums_tested (λ e. w (e.1.net - (first + b), shape_of e.1)) own entries
    ∙ sums_same (λ e. cond (own e) (w (e.1.net - (first + b), shape_of e.1)) 0) (λ e. cond (all e) (v (e.1.net - first, shape_of e.1)) 0)
    (λ e. let k = e.1.net in
    let same : k - (first + b) ≡ k - first - b = omega arith in
    ap (λ (j : ℕ). cond (own e) (w (j, shape_of e.1)) 0) same ∙ sym (both_among first b c n k few (w (k - first - b, shape_of e.1)))) entries
    ∙ sym (sums_tested (λ e. v (e.1.net - first, shape_of e.1)) all entries)
    ∙ sym (sums_mapped v (λ (e : ShapeId × Stored). (e.1.net - first, shape_of e.1)) (filter all entries))

pub runs_are_held : RunsAreHeld
runs_are_held first before parts behind entries held =
    let b = length before in
    let c = length parts in
    let n = length (before ++ (parts ++ behind)) in
    let count : n ≡ b + (c + length behind) = length-append before (parts ++ behind) ∙ ap (λ k. b + k) (length-append parts behind) in
    record {
      same = record {
        sums = λ w.
            let v = in_run b c w in
            let found = run_of first b c n entries (omega (arith, count)) w in
            let all = held.same.sums v in
            let cut = ap (sum_by v) (shapes_append 0 before (parts ++ behind)) in
            let cut_again = ap (sum_by v) (shapes_append b parts behind) in
            let front = outside b c w 0 before (λ k low high. split (is_among b c k) (λ t. absurd (grind (arith, t, high))) (λ t. t)) in
            let own = inside b c w 0 parts (omega arith) in
            let back = outside b c w (b + c) behind (λ k low high. split (is_among b c k) (λ t. absurd (grind (arith, t, low))) (λ t. t)) in
            let at : 0 + b ≡ b = omega arith in
            let at_own : b + 0 ≡ b = omega arith in
            let moved = ap (λ (k : ℕ). sum_by v (shapes_from k (parts ++ behind))) at in
            let moved_own = ap (λ (k : ℕ). sum_by v (shapes_from k parts)) at_own in
            omega (arith, found, all, cut, cut_again, front, own, back, moved, moved_own, sum_by-append v (shapes_from 0 before) (shapes_from (0 + b) (parts ++ behind)), sum_by-append v (shapes_from b parts) (shapes_from (b + c) behind));
      };
    }
