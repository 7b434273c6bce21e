-- Sums of cells of which some are kept along rows and some along columns.
use Rattle.std.proofs.Common.{◌≡◌, ◌+◌, ◌*◌, ◌^◌, ◌<◌, ℕ, if◌then◌else◌, ◌==◌, List, Option, Some, None, ℤ, refl, ap, ap₂, ◌∙◌, arith}
use Rattle.design_model.specs.Geometry.{Rectangle}
use Rattle.measure_rules.specs.Density.{common_area}
use Rattle.measure_rules.specs.GridCells.{between, cell_among}
use Rattle.cell_sums.specs.Sheets.{HasGrown, SheetSums, total}
use Rattle.cell_sums.specs.Lines.{common_length, shared_by}
use Rattle.cell_sums.specs.Tables.{Adds, AreBounded, rectangle_gains, spanned}
use Rattle.cell_sums.specs.declared.stretch.Stretch.{Stretch}

-- the sum of two fits
pub sum_fits : (columns rows : List ℤ) (flat upright : SheetSums) (added : ℕ) → AreBounded columns rows flat upright added → (l i j : ℕ) → total columns flat l i j + total rows upright l j i < 2 ^ 128
sum_fits columns rows flat upright added bounded l i j = let is = bounded.sums l i j in omega (arith, is, bounded.few)

one_cell : (a b : Rectangle) → Some a ≡ Some b → a ≡ b
one_cell a b e = cc

no_cell : (b : Rectangle) → None ≡ Some b → ⊥
no_cell b e = cc

-- the area of a cell between two lines of each axis
cell_area : (columns rows : List ℤ) (i j : ℕ) (r cell : Rectangle) (o p : Option (ℤ × ℤ)) → between columns i ≡ o → between rows j ≡ p → cell_among columns rows i j ≡ Some cell
    → shared_by r.x1 r.x2 o * shared_by r.y1 r.y2 p ≡ common_area cell r
cell_area columns rows i j r cell None p e f h = absurd (no_cell cell (rw (e) at (h)))
cell_area columns rows i j r cell (Some c) None e f h = absurd (no_cell cell (rw (e, f) at (h)))
cell_area columns rows i j r cell (Some c) (Some d) e f h = ap (λ k. common_area k r) (one_cell (record { x1 = c.0; y1 = d.0; x2 = c.1; y2 = d.1 }) _ (rw (e, f) at (h)))

swap : (a b : ℕ) → a * b ≡ b * a
swap a b = omega arith

module _ (columns rows : List ℤ) (layer added more : ℕ) (one : more ≡ added + 1) (r : Rectangle) (across upward : Stretch)
    (x1 : across.low ≡ r.x1) (x2 : across.high ≡ r.x2) (y1 : upward.low ≡ r.y1) (y2 : upward.high ≡ r.y2) where
  -- what a cell gains is its area
  gain : (l i j : ℕ) (cell : Rectangle) → cell_among columns rows i j ≡ Some cell
      → (if layer == l then common_length columns across.low across.high i * common_length rows upward.low upward.high j else 0) ≡ (if layer == l then common_area cell r else 0)
  gain l i j cell e =
      ap₂ (λ a b. if layer == l then a * b else 0) (ap₂ (λ low high. common_length columns low high i) x1 x2) (ap₂ (λ low high. common_length rows low high j) y1 y2)
      ∙ ap (λ a. if layer == l then a else 0) (cell_area columns rows i j r cell (between columns i) (between rows j) refl refl e)

  -- a rectangle that is added along rows,
  pub wide_adds : (flat next upright : SheetSums) → HasGrown columns flat next (rectangle_gains columns rows layer (spanned across upward))
      → Adds layer r (record { columns = columns; rows = rows; added = added; flat = flat; upright = upright }) (record { columns = columns; rows = rows; added = more; flat = next; upright = upright })
  wide_adds flat next upright step = record {
    columns = refl;
    rows = refl;
    added = one;
    sums = λ l i j cell e. let is = step.totals l i j in let area = gain l i j cell e in omega (arith, is, area);
  }

  -- and one that is added along columns
  pub tall_adds : (flat upright next : SheetSums) → HasGrown rows upright next (rectangle_gains rows columns layer (spanned upward across))
      → Adds layer r (record { columns = columns; rows = rows; added = added; flat = flat; upright = upright }) (record { columns = columns; rows = rows; added = more; flat = flat; upright = next })
  tall_adds flat upright next step = record {
    columns = refl;
    rows = refl;
    added = one;
    sums = λ l i j cell e.
        let is = step.totals l j i in
        let turned = ap (λ a. if layer == l then a else 0) (swap (common_length rows upward.low upward.high j) (common_length columns across.low across.high i)) in
        let area = gain l i j cell e in
        omega (arith, is, turned, area);
  }
