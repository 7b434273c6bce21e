-- Parts are joined where two of their shapes touch.
use Rattle.std.proofs.Common.{◌≡◌, ◌≤◌, ◌+◌, ℕ, suc, Bool, true, false, not, ◌&&◌, ◌||◌, List, [], ◌∷◌, ◌++◌, filter, length, refl, ap, ap₂, ◌∙◌, arith}
use Rattle.std.specs.Prelude.{nat_lt, zip}
use Rattle.std.specs.List.{list_any}
use Rattle.std.proofs.lemmas.List.Folds.{list_any-append}
use Rattle.lef_grammar.specs.Measures.{Shape}
use Rattle.shape_rules.specs.Classes.{numbers}
use Rattle.shape_rules.specs.Meeting.{pairs_of}
use Rattle.connection_rules.specs.NetParts.{Part}
use Rattle.connection_rules.specs.PartClasses.{touch, are_joined, numbered, joins}
use Rattle.net_classes.specs.PartShapes.{OfPart, with_part, shapes_from}
use Rattle.net_classes.proofs.AnyPairs.{and_false, any_map, any_filter, any_same, any_or, any_and, any_never, any_pair, pairs_any, pairs_append, pairs_map, pairs_never, pairs_none}
use Rattle.net_classes.proofs.Tests.{is_below}

-- parts under numbers from n on
abbrev pub parts_from : ℕ → List Part → List (ℕ × Part)
parts_from n [] = []
parts_from n (p ∷ ps) = (n, p) ∷ parts_from (suc n) ps

numbered_are : (n : ℕ) (ps : List Part) → zip (numbers n (length ps)) ps ≡ parts_from n ps
unfolding numbers
numbered_are n [] = refl
numbered_are n (p ∷ ps) = ap (λ (l : List (ℕ × Part)). (n, p) ∷ l) (numbered_are (suc n) ps)

module _ (test : ℕ × ℕ → Bool) where
  -- two parts are joined and pass a test, and so with two shapes
  abbrev pub joined_pass : ℕ × Part → ℕ × Part → Bool
  joined_pass p q = are_joined p.1 q.1 && test (p.0, q.0)

  abbrev pub touching_pass : OfPart → OfPart → Bool
  touching_pass a b = touch a.shape b.shape && test (a.part, b.part)

  pub any_join : (ps : List Part) → list_any test (joins ps) ≡ pairs_any joined_pass (parts_from 0 ps)
  any_join ps =
      any_map {B = ℕ × ℕ} test (λ (p : (ℕ × Part) × (ℕ × Part)). (p.0.0, p.1.0)) (filter (λ (p : (ℕ × Part) × (ℕ × Part)). are_joined p.0.1 p.1.1) (pairs_of (numbered ps)))
      ∙ any_filter (λ (p : (ℕ × Part) × (ℕ × Part)). test (p.0.0, p.1.0)) (λ (p : (ℕ × Part) × (ℕ × Part)). are_joined p.0.1 p.1.1) (pairs_of (numbered ps))
      ∙ any_pair (λ (p : (ℕ × Part) × (ℕ × Part)). are_joined p.0.1 p.1.1 && test (p.0.0, p.1.0)) (numbered ps)
      ∙ ap (pairs_any joined_pass) (numbered_are 0 ps)

  -- the shapes of two parts
  two_parts : (n k : ℕ) (p q : Part) → list_any (λ a. list_any (touching_pass a) (with_part k q.shapes)) (with_part n p.shapes) ≡ joined_pass (n, p) (k, q)
  two_parts n k p q =
      any_map (λ (a : OfPart). list_any (touching_pass a) (with_part k q.shapes)) (λ (s : Shape). record { part = n; shape = s }) p.shapes
      ∙ any_same
      (λ s. list_any (touching_pass (record { part = n; shape = s })) (with_part k q.shapes))
      (λ s. list_any (touch s) q.shapes && test (n, k))
      (λ s. any_map (touching_pass (record { part = n; shape = s })) (λ (t : Shape). record { part = k; shape = t }) q.shapes ∙ any_and (touch s) (test (n, k)) q.shapes)
      p.shapes
      ∙ any_and (λ s. list_any (touch s) q.shapes) (test (n, k)) p.shapes

  -- those of a part and those of others
  with_others : (n k : ℕ) (p : Part) (ps : List Part) → list_any (λ a. list_any (touching_pass a) (shapes_from k ps)) (with_part n p.shapes) ≡ list_any (joined_pass (n, p)) (parts_from k ps)
  with_others n k p [] = any_never (λ (a : OfPart). false) (λ a. refl) (with_part n p.shapes)
  with_others n k p (q ∷ ps) =
      any_same
      (λ a. list_any (touching_pass a) (with_part k q.shapes ++ shapes_from (suc k) ps))
      (λ a. list_any (touching_pass a) (with_part k q.shapes) || list_any (touching_pass a) (shapes_from (suc k) ps))
      (λ a. list_any-append (touching_pass a) (with_part k q.shapes) (shapes_from (suc k) ps))
      (with_part n p.shapes)
      ∙ any_or (λ a. list_any (touching_pass a) (with_part k q.shapes)) (λ a. list_any (touching_pass a) (shapes_from (suc k) ps)) (with_part n p.shapes)
      ∙ ap₂ (λ (a b : Bool). a || b) (two_parts n k p q) (with_others n (suc k) p ps)

  -- those of one part, where a part with itself doesn't pass
  one_part : ((i : ℕ) → test (i, i) ≡ false) → (n : ℕ) (shapes : List Shape) → pairs_any touching_pass (with_part n shapes) ≡ false
  one_part own n shapes =
      pairs_map touching_pass (λ (s : Shape). record { part = n; shape = s }) shapes
      ∙ pairs_never (λ s t. touch s t && test (n, n)) (λ s t. ap (λ (b : Bool). touch s t && b) (own n) ∙ and_false (touch s t)) shapes

  pub touching_are_joined : ((i : ℕ) → test (i, i) ≡ false) → (n : ℕ) (ps : List Part) → pairs_any touching_pass (shapes_from n ps) ≡ pairs_any joined_pass (parts_from n ps)
  touching_are_joined own n [] = refl
  touching_are_joined own n (p ∷ ps) =
      pairs_append touching_pass (with_part n p.shapes) (shapes_from (suc n) ps)
      ∙ ap (λ (t : Bool). t || (list_any (λ a. list_any (touching_pass a) (shapes_from (suc n) ps)) (with_part n p.shapes) || pairs_any touching_pass (shapes_from (suc n) ps))) (one_part own n p.shapes)
      ∙ ap₂ (λ (a b : Bool). a || b) (with_others n (suc n) p ps) (touching_are_joined own (suc n) ps)

numbers_below : (m n : ℕ) (ps : List Part) → n + length ps ≤ m → list_any (λ p. not (nat_lt p.0 m)) (parts_from n ps) ≡ false
numbers_below m n [] h = refl
numbers_below m n (p ∷ ps) h =
    let here : not (nat_lt n m) ≡ false = grind (arith, h) in
    ap (λ (t : Bool). t || list_any (λ (q : ℕ × Part). not (nat_lt q.0 m)) (parts_from (suc n) ps)) here ∙ numbers_below m (suc n) ps (omega (arith, h))

neither : (a b c : Bool) → not a ≡ false → not b ≡ false → (c && not (a && b)) ≡ false
neither true true true h k = refl
neither true true false h k = refl
neither true false c h k = absurd (cc)
neither false b c h k = absurd (cc)

-- joins are of parts that there are
pub joins_below : (ps : List Part) → list_any (λ e. not (is_below (length ps) e)) (joins ps) ≡ false
joins_below ps =
    let n = length ps in
    any_join (λ e. not (is_below n e)) ps
    ∙ pairs_none (joined_pass (λ e. not (is_below n e))) (λ (p : ℕ × Part). not (nat_lt p.0 n)) (λ p q. neither (nat_lt p.0 n) (nat_lt q.0 n) (are_joined p.1 q.1)) (parts_from 0 ps) (numbers_below n 0 ps (omega arith))
