-- Boxes in the order in which those that share area are looked for.
use Rattle.std.specs.Prelude.{List, ◌≤ℤ◌, AllPairs, IsSorted}
use Rattle.std.specs.Ordering.{int_cmp, ordering_then}
use Rattle.std.specs.declared.cmp.Ordering.{Ordering}
use Rattle.design_model.specs.declared.geometry.Rect.{Rect}
use Rattle.place_checks.specs.declared.swept_box.SweptBox.{SweptBox}

-- the order of rectangles by their lower edges, and of those of one lower edge by their left edges
abbrev pub sweep_cmp : Rect → Rect → Ordering
sweep_cmp a b = ordering_then (int_cmp a.y1 b.y1) (int_cmp a.x1 b.x1)

-- no box comes before the one that it stands behind
pub record InSweepOrder (boxes : List SweptBox) : Type 0 where
  pub rises : IsSorted (λ (a b : SweptBox). sweep_cmp a.rect b.rect) boxes

-- none of them begins left of one that it stands behind
pub record FromLeft (boxes : List SweptBox) : Type 0 where
  pub rises : AllPairs (λ (a b : SweptBox). a.rect.x1 ≤ℤ b.rect.x1) boxes
