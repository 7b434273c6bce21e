-- Lists that grow by one more shape.
use Rattle.std.proofs.Common.{◌≡◌, ◌+◌, ◌<◌, ℕ, suc, List, [], ◌∷◌, ◌++◌, map, take, length, get_or, sym, ap, ◌∙◌, arith}
use Rattle.std.proofs.lemmas.List.{take_more, length-take-le, map-append}
use Rattle.lef_grammar.specs.Measures.{Shape}
use Rattle.net_lists.specs.declared.parts.NetShape.{NetShape}
use Rattle.net_lists.specs.PartCuts.{shape_view}
use Rattle.shape_pairs.specs.declared.pairs.Numbered.{Numbered}
use Rattle.net_classes.specs.declared.part_shapes.PartShape.{PartShape}
use Rattle.net_classes.specs.PartShapes.{numbered_from, with_part}

numbered_push : (n : ℕ) (ss : List PartShape) (s : PartShape) → numbered_from n (ss ++ s ∷ []) ≡ numbered_from n ss ++ record { rect = s.rect; id = n + length ss } ∷ []
numbered_push n [] s = let e : n ≡ n + 0 = omega arith in ap (λ (k : ℕ). record { rect = s.rect; id = k } ∷ []) e
numbered_push n (x ∷ ss) s =
    let e : suc n + length ss ≡ n + suc (length ss) = omega arith in
    ap (λ (l : List Numbered). record { rect = x.rect; id = n } ∷ l)
    (numbered_push (suc n) ss s ∙ ap (λ (k : ℕ). numbered_from (suc n) ss ++ record { rect = s.rect; id = k } ∷ []) e)

numbered_more : (ss : List PartShape) (k : ℕ) (s : PartShape) → k < length ss
    → numbered_from 0 (take (k + 1) ss) ≡ numbered_from 0 (take k ss) ++ record { rect = (get_or ss k s).rect; id = k } ∷ []
numbered_more ss k s h =
    let size = length-take-le k ss (omega (arith, h)) in
    let e : 0 + length (take k ss) ≡ k = omega (arith, size) in
    ap (numbered_from 0) (take_more ss k s h) ∙ numbered_push 0 (take k ss) (get_or ss k s)
    ∙ ap (λ (i : ℕ). numbered_from 0 (take k ss) ++ record { rect = (get_or ss k s).rect; id = i } ∷ []) e

-- a step of the loop that numbers shapes
pub next_numbered : (ss : List PartShape) (k : ℕ) (s : PartShape) (items new : List Numbered)
    → items ≡ numbered_from 0 (take k ss) → k < length ss → s ≡ get_or ss k s → new ≡ items ++ record { rect = s.rect; id = k } ∷ []
    → new ≡ numbered_from 0 (take (k + 1) ss)
next_numbered ss k s items new done h found pushed =
    pushed
    ∙ ap (λ (l : List Numbered). l ++ record { rect = s.rect; id = k } ∷ []) done
    ∙ ap (λ (t : PartShape). numbered_from 0 (take k ss) ++ record { rect = t.rect; id = k } ∷ []) found
    ∙ sym (numbered_more ss k s h)

pub with_part_more : (n : ℕ) (ss : List NetShape) (k : ℕ) (s : NetShape) → k < length ss
    → with_part n (map shape_view (take (k + 1) ss)) ≡ with_part n (map shape_view (take k ss)) ++ record { part = n; shape = shape_view (get_or ss k s) } ∷ []
with_part_more n ss k s h =
    ap (λ (l : List NetShape). with_part n (map shape_view l)) (take_more ss k s h)
    ∙ ap (with_part n) (map-append shape_view (take k ss) (get_or ss k s ∷ []))
    ∙ map-append (λ (t : Shape). record { part = n; shape = t }) (map shape_view (take k ss)) (shape_view (get_or ss k s) ∷ [])
