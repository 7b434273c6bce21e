-- The places of parts whose shapes touch some, shape by shape.
use Rattle.std.proofs.Common.{◌≡◌, ◌∙◌, ◌<◌, ◌≤◌, ◌+◌, ◌-◌, ◌^◌, ℕ, min, List, [], ◌∷◌, ◌++◌, sym, ap, arith, drop, get_or, length, map, subst, sum_by}
use Rattle.std.specs.Prelude.{flat_map}
use Rattle.std.proofs.lemmas.List.{append-nil, drop_all, drop_more}
use Rattle.std.proofs.lemmas.List.Sums.{sum_by-append, sum_by-cons}
use Rattle.lef_grammar.specs.Measures.{Shape}
use Rattle.line_laws.specs.Lines.{SameThings}
use Rattle.net_lists.specs.PartCuts.{shape_view}
use Rattle.net_lists.specs.declared.parts.NetShape.{NetShape}
use Rattle.placed_shapes.specs.Placed.{touched_by}

-- what is counted at least once the next shape is looked at, where a count ends at 2 ^ 64 - 1
pub next_counted : (met : Shape → ℕ) (shapes : List NetShape) (i : ℕ) (x : NetShape) (now one next all : ℕ) → i < length shapes → x ≡ get_or shapes i x → min (sum_by met (map shape_view (x ∷ []))) (2 ^ 64 - 1) ≤ one
    → min (now + one) (2 ^ 64 - 1) ≤ next → min all (2 ^ 64 - 1) ≤ now + sum_by met (map shape_view (drop i shapes)) → min all (2 ^ 64 - 1) ≤ next + sum_by met (map shape_view (drop (i + 1) shapes))
next_counted met shapes i x now one next all below is some step h =
    let left = ap (λ (l : List NetShape). sum_by met (map shape_view l)) (drop_more shapes i x below ∙ ap (λ (y : NetShape). y ∷ drop (i + 1) shapes) (sym is)) in
    omega (arith, left, some, step, h, sum_by-cons met (shape_view x) [], sum_by-cons met (shape_view x) (map shape_view (drop (i + 1) shapes)))

module _ (placed : List (ℕ × Shape)) where
  -- the places of shapes that touch some of these
  abbrev pub touching : List NetShape → List ℕ
  touching shapes = flat_map (touched_by placed) (map shape_view shapes)

  one_touched : (x : NetShape) (rest : List NetShape) (now more next all : List ℕ) → SameThings (now ++ touching (x ∷ rest)) all → SameThings more (touching (x ∷ [])) → next ≡ now ++ more
      → SameThings (next ++ touching rest) all
  one_touched x rest now more next all h k is = record {
    sums = λ w.
        let mine = touched_by placed (shape_view x) in
        let a = h.sums w in
        let b = k.sums w in
        let c = ap (sum_by w) is in
        omega (arith, a, b, c, sum_by-append w now (touching (x ∷ rest)), sum_by-append w mine (touching rest), sum_by-append w mine [], sum_by-append w next (touching rest), sum_by-append w now more);
  }

  -- the next shape is looked at
  pub next_touched : (shapes : List NetShape) (i : ℕ) (x : NetShape) (now more next all : List ℕ) → i < length shapes → x ≡ get_or shapes i x → SameThings (now ++ touching (drop i shapes)) all
      → SameThings more (touching (x ∷ [])) → next ≡ now ++ more → SameThings (next ++ touching (drop (i + 1) shapes)) all
  next_touched shapes i x now more next all below is h k put =
      let left = drop_more shapes i x below ∙ ap (λ (y : NetShape). y ∷ drop (i + 1) shapes) (sym is) in
      one_touched x (drop (i + 1) shapes) now more next all (subst (λ (l : List NetShape). SameThings (now ++ touching l) all) left h) k put

  pub all_touched : (shapes : List NetShape) (i : ℕ) (now all : List ℕ) → length shapes ≤ i → SameThings (now ++ touching (drop i shapes)) all → SameThings now all
  all_touched shapes i now all past h =
      subst (λ (ns : List ℕ). SameThings ns all) (ap (λ (l : List NetShape). now ++ touching l) (drop_all i shapes past) ∙ append-nil now) h
