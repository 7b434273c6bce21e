-- The lines of two components don't hang on which is first.
use Rattle.std.proofs.Common.{◌≡◌, ℕ, Bool, List, [], ◌∷◌, refl, sym, ap, ◌∙◌, arith, if◌then◌else◌}
use Rattle.std.specs.Ordering.{is_lt, ordering_reverse}
use Rattle.std.specs.declared.cmp.Ordering.{Ordering}
use Rattle.std.specs.declared.cmp.Ordering.TheVariants.{Less, Equal, Greater}
use Rattle.std.proofs.lemmas.Cmp.{nat_list_cmp_total}
use Rattle.std.proofs.lemmas.Map.Lookups.{exact_bytes}
use Rattle.std.proofs.lemmas.Int.{ints}
use Rattle.std.specs.Prelude.{ℤ}
use Rattle.std.specs.Int.{int_min, int_max}
use Rattle.design_model.specs.declared.diagnostic.DiagKind.TheVariants.{Overlap}
use Rattle.design_model.specs.Geometry.{Rectangle, overlap}
use Rattle.design_model.specs.Lines.{line_text}
use Rattle.design_model.specs.Order.{byte_cmp, greater, lesser}
use Rattle.design_rules.specs.Boxes.{Boxed}
use Rattle.design_rules.specs.OverlapLines.{overlap_line, overlap_of}
use Rattle.line_laws.specs.Lines.{times}
use Rattle.line_laws.specs.PairLaws.{OverlapsAreSymmetric}

abbrev Name : Type 0
Name = List ℕ

lesser_by : (r : Ordering) (a b : Name) → (r ≡ Equal → a ≡ b) → (if is_lt (ordering_reverse r) then b else a) ≡ (if is_lt r then a else b)
lesser_by Less a b h = refl
lesser_by Equal a b h = h refl
lesser_by Greater a b h = refl

lesser_same : (a b : Name) → lesser a b ≡ lesser b a
lesser_same a b = ap (λ (r : Ordering). if is_lt r then b else a) (nat_list_cmp_total.antisymm b a) ∙ lesser_by (byte_cmp a b) a b (exact_bytes a b)

greater_by : (r : Ordering) (a b : Name) → (r ≡ Equal → a ≡ b) → (if is_lt (ordering_reverse r) then a else b) ≡ (if is_lt r then b else a)
greater_by Less a b h = refl
greater_by Equal a b h = sym (h refl)
greater_by Greater a b h = refl

greater_same : (a b : Name) → greater a b ≡ greater b a
greater_same a b = ap (λ (r : Ordering). if is_lt r then a else b) (nat_list_cmp_total.antisymm b a) ∙ greater_by (byte_cmp a b) a b (exact_bytes a b)

min_same : (x y : ℤ) → int_min x y ≡ int_min y x
min_same x y = grind (arith, ints)

max_same : (x y : ℤ) → int_max x y ≡ int_max y x
max_same x y = grind (arith, ints)

overlap_same : (a b : Rectangle) → overlap a b ≡ overlap b a
overlap_same a b = rw (max_same a.x1 b.x1, min_same a.x2 b.x2, max_same a.y1 b.y1, min_same a.y2 b.y2) refl

line_same : (a b : Name) → overlap_line a b ≡ overlap_line b a
line_same a b =
    ap (λ (n : Name). line_text Overlap (n ∷ greater a b ∷ []) []) (lesser_same a b)
    ∙ ap (λ (n : Name). line_text Overlap (lesser b a ∷ n ∷ []) []) (greater_same a b)

lines_same : (a b : Boxed) → overlap_of a b ≡ overlap_of b a
lines_same a b =
    ap (λ (t : Bool). if t then overlap_line a.name b.name ∷ [] else []) (overlap_same a.box b.box)
    ∙ ap (λ (l : List ℕ). if overlap b.box a.box then l ∷ [] else []) (line_same a.name b.name)

pub overlaps_are_symmetric : OverlapsAreSymmetric
overlaps_are_symmetric a b = record { often = λ q. ap (λ (ls : List (List ℕ)). times q ls) (lines_same a b) }
