-- Two rectangles that meet cover their home, once.
use Rattle.std.proofs.Common.{◌≡◌, ◌<◌, ◌≤◌, ◌+◌, ◌-◌, ◌*◌, ◌/◌, ◌^◌, ℕ, zero, suc, Bool, true, false, cond, ◌&&◌, List, refl, sym, ap, ◌∙◌, arith, sum_by}
use Rattle.std.specs.Prelude.{◌==◌, nat_lt, ℤ, ◌≤ℤ◌}
use Rattle.std.specs.List.{flat_map}
use Rattle.std.specs.Int.{int_max}
use Rattle.std.specs.Int.Signed.{le_z}
use Rattle.std.proofs.lemmas.Nat.{le-div, pow_pos}
use Rattle.std.proofs.Math.Nat.{div-mul-le_self, mul-le-mul_right}
use Rattle.std.proofs.lemmas.List.Sums.{sum_by-cons}
use Rattle.design_model.specs.Geometry.{Rectangle}
use Rattle.design_model.specs.Views.{rectangle_of}
use Rattle.design_model.specs.declared.geometry.Rect.{Rect}
use Rattle.shape_rules.specs.Classes.{numbers}
use Rattle.shape_rules.specs.Meeting.{meets}
use Rattle.line_laws.proofs.PairSums.{sum_by-same}
use Rattle.shape_pairs.specs.declared.grid.Grid.{Grid}
use Rattle.shape_pairs.specs.Steps.{past, clamped, step_at}
use Rattle.shape_pairs.specs.Grids.{between, bin_at, bin_count, column_at, row_at, covered, home}
use Rattle.shape_pairs.proofs.Calls.{split}
use Rattle.shape_pairs.proofs.PairSums.{sum_of_flat_map}
use Rattle.shape_pairs.proofs.BinSums.{Once}

-- steps rise
lower : (n m s : ℕ) → 0 < s → n ≤ m → n / s ≤ m / s
lower n m s some h = le-div (n / s) m s some (omega (arith, h, div-mul-le_self n s))

further : (from a b : ℤ) → le_z a b ≡ true → past from a ≤ past from b
further from a b h = grind (arith, h)

clamps : (count n m : ℕ) → n ≤ m → clamped count n ≤ clamped count m
clamps count n m h = grind (arith, h)

few : (count n : ℕ) → 0 < count → clamped count n < count
few count n h = grind (arith, h)

rises : (from : ℤ) (size count : ℕ) (a b : ℤ) → 0 < size → le_z a b ≡ true → step_at from size count a ≤ step_at from size count b
rises from size count a b some h = clamps count (past from a / size) (past from b / size) (lower (past from a) (past from b) size some (further from a b h))

-- a number that stands in a row of numbers, once
elsewhere : (h m a n : ℕ) → ((k : ℕ) → a ≤ k → k < a + n → (h == k) ≡ false) → sum_by (λ b. cond (h == b) m 0) (numbers a n) ≡ 0
unfolding numbers
elsewhere h m a zero f = refl
elsewhere h m a (suc n) f =
    let t = f a (omega arith) (omega arith) in
    let e : cond (h == a) m 0 ≡ 0 = ap (λ (s : Bool). cond s m 0) t in
    let r = elsewhere h m (suc a) n (λ k low high. f k (omega (arith, low)) (omega (arith, high))) in
    omega (arith, e, r, sum_by-cons (λ b. cond (h == b) m 0) a (numbers (suc a) n))

pub among : (h a n : ℕ) → a ≤ h → h < a + n → Once h (numbers a n)
unfolding numbers
among h a zero low high m = absurd (omega (arith, low, high))
among h a (suc n) low high m =
    let c = sum_by-cons (λ b. cond (h == b) m 0) a (numbers (suc a) n) in
    split (h == a)
    (λ t.
    let same : h ≡ a = grind (arith, t) in
    let rest = elsewhere h m (suc a) n (λ k above below. grind (arith, same, above)) in
    let e : cond (h == a) m 0 ≡ m = ap (λ (s : Bool). cond s m 0) t in
    omega (arith, c, rest, e))
    (λ t.
    let rest = among h (suc a) n (grind (arith, t, low)) (omega (arith, high)) m in
    let e : cond (h == a) m 0 ≡ 0 = ap (λ (s : Bool). cond s m 0) t in
    omega (arith, c, rest, e))

pub once_between : (h a b : ℕ) → a ≤ h → h ≤ b → Once h (between a b)
once_between h a b low high = among h a (b + 1 - a) low (omega (arith, low, high))

-- bins of different rows differ
apart : (columns r s c d : ℕ) → c < columns → d < columns → (s == r) ≡ false → ((s * columns + d) == (r * columns + c)) ≡ false
apart columns r s c d cs ds t =
    split (nat_lt s r)
    (λ less.
    let l : suc s ≤ r = grind (arith, less) in
    let m : suc s * columns ≤ r * columns = mul-le-mul_right columns l in
    let differ : s * columns + d < r * columns + c = omega (arith, m, ds) in
    grind (arith, differ))
    (λ more.
    let l : suc r ≤ s = grind (arith, more, t) in
    let m : suc r * columns ≤ s * columns = mul-le-mul_right columns l in
    let differ : r * columns + c < s * columns + d = omega (arith, m, cs) in
    grind (arith, differ))

-- the bins of rows and columns have each of theirs once
once_in_rows : (columns r1 r2 c1 c2 row column : ℕ) → r1 ≤ row → row ≤ r2 → c1 ≤ column → column ≤ c2 → c2 < columns
    → Once (row * columns + column) (flat_map (λ r. between (r * columns + c1) (r * columns + c2)) (between r1 r2))
once_in_rows columns r1 r2 c1 c2 row column low high left right few m =
    let h : ℕ = row * columns + column in
    let bins : ℕ → List ℕ = λ r. between (r * columns + c1) (r * columns + c2) in
    sum_of_flat_map (λ b. cond (h == b) m 0) bins (between r1 r2)
    ∙ sum_by-same (λ r. sum_by (λ b. cond (h == b) m 0) (bins r)) (λ r. cond (row == r) m 0)
    (λ r. split (row == r)
    (λ t.
    let same : row ≡ r = grind (arith, t) in
    let e : cond (row == r) m 0 ≡ m = ap (λ (s : Bool). cond s m 0) t in
    let here : sum_by (λ b. cond (h == b) m 0) (bins row) ≡ m = once_between h (row * columns + c1) (row * columns + c2) (omega (arith, left)) (omega (arith, right)) m in
    sym (ap (λ (r : ℕ). sum_by (λ b. cond (h == b) m 0) (bins r)) same) ∙ here ∙ sym e)
    (λ t.
    let e : cond (row == r) m 0 ≡ 0 = ap (λ (s : Bool). cond s m 0) t in
    let none = elsewhere h m (r * columns + c1) (r * columns + c2 + 1 - (r * columns + c1))
    (λ k above below.
    let c : k ≡ r * columns + (k - r * columns) = omega (arith, above) in
    let cs : k - r * columns < columns = omega (arith, above, below, few) in
    let d : column < columns = omega (arith, right, few) in
    ap (λ (k : ℕ). h == k) c ∙ apart columns r row (k - r * columns) column cs d t) in
    none ∙ sym e))
    (between r1 r2)
    ∙ once_between row r1 r2 low high m

both : (a b : Bool) → (a && b) ≡ true → (a ≡ true) × (b ≡ true)
both true true e = (refl, refl)
both true false e = absurd (cc)
both false b e = absurd (cc)

-- two rectangles share a point: each ends at or after the lower ends of both
record Share (a b : Rect) : Type 0 where
  left : (le_z a.x1 (int_max a.x1 b.x1) ≡ true) × (le_z b.x1 (int_max a.x1 b.x1) ≡ true)
  right : (le_z (int_max a.x1 b.x1) a.x2 ≡ true) × (le_z (int_max a.x1 b.x1) b.x2 ≡ true)
  low : (le_z a.y1 (int_max a.y1 b.y1) ≡ true) × (le_z b.y1 (int_max a.y1 b.y1) ≡ true)
  high : (le_z (int_max a.y1 b.y1) a.y2 ≡ true) × (le_z (int_max a.y1 b.y1) b.y2 ≡ true)

starts_before : (a b : ℤ) → (le_z a (int_max a b) ≡ true) × (le_z b (int_max a b) ≡ true)
starts_before a b = (grind arith, grind arith)

ends_after : (a b a2 b2 : ℤ) → a ≤ℤ a2 → b ≤ℤ b2 → le_z a b2 ≡ true → le_z b a2 ≡ true → (le_z (int_max a b) a2 ≡ true) × (le_z (int_max a b) b2 ≡ true)
ends_after a b a2 b2 wa wb p q = (grind (arith, wa, q), grind (arith, wb, p))

share : (a b : Rect) → meets (rectangle_of a) (rectangle_of b) ≡ true → Share a b
share a b e =
    let h = both (le_z a.x1 b.x2 && le_z b.x1 a.x2) (le_z a.y1 b.y2 && le_z b.y1 a.y2) e in
    let x = both (le_z a.x1 b.x2) (le_z b.x1 a.x2) h.0 in
    let y = both (le_z a.y1 b.y2) (le_z b.y1 a.y2) h.1 in
    record {
      left = starts_before a.x1 b.x1;
      right = ends_after a.x1 b.x1 a.x2 b.x2 a.wide b.wide x.0 x.1;
      low = starts_before a.y1 b.y1;
      high = ends_after a.y1 b.y1 a.y2 b.y2 a.high b.high y.0 y.1;
    }

module _ (grid : Grid) where
  pub column_below : (x : ℤ) → column_at grid x < grid.columns
  column_below x = few grid.columns (past grid.left x / 2 ^ grid.log_side) grid.has_columns

  pub row_below : (y : ℤ) → row_at grid y < grid.rows
  row_below y = few grid.rows (past grid.bottom y / 2 ^ grid.log_side) grid.has_rows

  pub bin_below : (x y : ℤ) → bin_at grid (column_at grid x) (row_at grid y) < bin_count grid
  bin_below x y =
      let l : suc (row_at grid y) ≤ grid.rows = row_below y in
      let m : suc (row_at grid y) * grid.columns ≤ grid.rows * grid.columns = mul-le-mul_right grid.columns l in
      omega (arith, m, column_below x)

  -- a rectangle covers the bin of each of its points, once
  point_once : (r : Rectangle) (x y : ℤ) → le_z r.x1 x ≡ true → le_z x r.x2 ≡ true → le_z r.y1 y ≡ true → le_z y r.y2 ≡ true
      → Once (bin_at grid (column_at grid x) (row_at grid y)) (covered grid r)
  point_once r x y left right low high =
      let s = pow_pos grid.log_side in
      once_in_rows grid.columns (row_at grid r.y1) (row_at grid r.y2) (column_at grid r.x1) (column_at grid r.x2) (row_at grid y) (column_at grid x)
      (rises grid.bottom (2 ^ grid.log_side) grid.rows r.y1 y s low) (rises grid.bottom (2 ^ grid.log_side) grid.rows y r.y2 s high)
      (rises grid.left (2 ^ grid.log_side) grid.columns r.x1 x s left) (rises grid.left (2 ^ grid.log_side) grid.columns x r.x2 s right)
      (column_below r.x2)

  pub first_once : (a b : Rect) → meets (rectangle_of a) (rectangle_of b) ≡ true → Once (home grid (rectangle_of a) (rectangle_of b)) (covered grid (rectangle_of a))
  first_once a b e = let s = share a b e in point_once (rectangle_of a) (int_max a.x1 b.x1) (int_max a.y1 b.y1) s.left.0 s.right.0 s.low.0 s.high.0

  pub second_once : (a b : Rect) → meets (rectangle_of a) (rectangle_of b) ≡ true → Once (home grid (rectangle_of a) (rectangle_of b)) (covered grid (rectangle_of b))
  second_once a b e = let s = share a b e in point_once (rectangle_of b) (int_max a.x1 b.x1) (int_max a.y1 b.y1) s.left.1 s.right.1 s.low.1 s.high.1
