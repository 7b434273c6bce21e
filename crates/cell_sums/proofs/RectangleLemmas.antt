-- What cells gain by a rectangle, row by row.
use Rattle.std.proofs.Common.{◌≡◌, ◌+◌, ◌*◌, ◌^◌, ◌<◌, ◌≤◌, ℕ, suc, Bool, true, false, if◌then◌else◌, ◌==◌, ◌&&◌, nat_lt, List, ℤ, get_or, length, refl, sym, ap, ap₂, ◌∙◌, arith}
use Rattle.std.proofs.lemmas.Bool.Decides.{nat_tests}
use Rattle.design_model.specs.Geometry.{Rectangle}
use Rattle.cell_sums.specs.Blocks.{Gains, strip_gains}
use Rattle.cell_sums.specs.Covered.{IsCovered}
use Rattle.cell_sums.specs.Lines.{AreLines, common_length, is_from, shared_by}
use Rattle.cell_sums.specs.Sheets.{HasGrown, HasGrownAtMost, SheetSums, total}
use Rattle.cell_sums.specs.Tables.{rectangle_gains}
use Rattle.cell_sums.specs.declared.runs.Run.{Run}
use Rattle.cell_sums.specs.declared.runs.Strip.{Strip}
use Rattle.cell_sums.proofs.CoverLemmas.{between_none, between_some}
use Rattle.cell_sums.proofs.LengthLemmas.{extent_small}

-- the length of a column fits 32 bits
pub length_small : (ls : List ℤ) (low high : ℤ) (i : ℕ) → AreLines ls → common_length ls low high i < 2 ^ 32
length_small ls low high i are = by (nat_lt (suc i) (length ls)) refl
  where
    by : (w : Bool) → nat_lt (suc i) (length ls) ≡ w → common_length ls low high i < 2 ^ 32
    by true w =
        let within : suc i < length ls = grind (arith, nat_tests) in
        let is = ap (λ o. shared_by low high o) (between_some ls i low low within) in
        let small = extent_small (get_or ls i low) (get_or ls (suc i) low) low high (are.near i low (omega arith)) (are.near (suc i) low within) in
        omega (arith, is, small)
    by false w =
        let past : length ls ≤ i + 1 = grind (arith, nat_tests) in
        let is = ap (λ o. shared_by low high o) (between_none ls i past) in
        omega (arith, is)

small_area : (a b : ℕ) → a < 2 ^ 32 → b < 2 ^ 32 → a * b ≤ 2 ^ 64
small_area a b h k = grind arith

-- what rows from one up to another gain
abbrev pub rows_gains : List ℤ → List ℤ → ℕ → Rectangle → ℕ → ℕ → Gains
rows_gains columns rows layer r first row l i j = if (layer == l) && is_from first row j then common_length columns r.x1 r.x2 i * common_length rows r.y1 r.y2 j else 0

-- how far a loop over rows has come
pub record RowsGoing (columns rows : List ℤ) (layer : ℕ) (r : Rectangle) (old now : SheetSums) (first row : ℕ) : Type 0 where
  pub low : first ≤ row
  pub gained : HasGrown columns old now (rows_gains columns rows layer r first row)

no_rows : (s : Bool) (first j a : ℕ) → (if s && is_from first first j then a else 0) ≡ 0
no_rows false first j a = refl
no_rows true first j a = grind (arith, nat_tests)

one_row : (s : Bool) (first row j a : ℕ) → first ≤ row → (if s && is_from first (row + 1) j then a else 0) ≡ (if s && is_from first row j then a else 0) + (if s && (row == j) then a else 0)
one_row false first row j a low = refl
one_row true first row j a low = grind (arith, nat_tests)

-- the next row isn't among those that gained
not_yet : (s : Bool) (first row a : ℕ) → (if s && is_from first row row then a else 0) ≡ 0
not_yet false first row a = refl
not_yet true first row a = grind (arith, nat_tests)

no_more : (s t : Bool) (a : ℕ) → (if s && t then a else 0) ≤ a
no_more false t a = omega arith
no_more true false a = omega arith
no_more true true a = omega arith

module _ (columns rows : List ℤ) (layer : ℕ) (r : Rectangle) where
  abbrev area : ℕ → ℕ → ℕ
  area i j = common_length columns r.x1 r.x2 i * common_length rows r.y1 r.y2 j

  pub rows_begin : (old : SheetSums) (first : ℕ) → RowsGoing columns rows layer r old old first first
  rows_begin old first = record { low = omega arith; gained = record { totals = λ l i j. let none = no_rows (layer == l) first j (area i j) in omega (arith, none) } }

  -- a strip over covered columns is a row of the rectangle
  module _ (c0 c1 : ℕ) (covered : IsCovered columns r.x1 r.x2 c0 c1) (row height : ℕ) (high : height ≡ common_length rows r.y1 r.y2 row) where
    strip_row : (s t u : Bool) (i j : ℕ) → (t ≡ true → row ≡ j) → (u ≡ false → common_length columns r.x1 r.x2 i ≡ 0)
        → (if s && (t && u) then common_length columns r.x1 r.x2 i * height else 0) ≡ (if s && t then area i j else 0)
    strip_row false t u i j at out = refl
    strip_row true false u i j at out = refl
    strip_row true true true i j at out = ap (λ h. common_length columns r.x1 r.x2 i * h) (high ∙ ap (λ k. common_length rows r.y1 r.y2 k) (at refl))
    strip_row true true false i j at out = sym (ap (λ n. n * common_length rows r.y1 r.y2 j) (out refl) ∙ omega arith)

    -- what the row gains where the places are those of the rectangle
    row_gained : (low high : ℤ) → low ≡ r.x1 → high ≡ r.x2 → (l i j : ℕ)
        → (if (layer == l) && ((row == j) && is_from c0 c1 i) then common_length columns low high i * height else 0) ≡ (if (layer == l) && (row == j) then area i j else 0)
    row_gained low high low_is high_is l i j =
        ap₂ (λ a b. if (layer == l) && ((row == j) && is_from c0 c1 i) then common_length columns a b i * height else 0) low_is high_is
        ∙ strip_row (layer == l) (row == j) (is_from c0 c1 i) i j (λ h. grind (arith, nat_tests)) (λ h. covered.outside i h)

    module _ (old now next : SheetSums) (first : ℕ) (going : RowsGoing columns rows layer r old now first row) (cells : Run) (strip : Strip)
        (cells_are : cells ≡ record { layer = layer; major = row; first = c0; end = c1 }) (low_is : strip.low ≡ r.x1) (high_is : strip.high ≡ r.x2) (height_is : strip.height ≡ height) where
      gains_are : (l i j : ℕ) → strip_gains columns cells strip l i j ≡ (if (layer == l) && (row == j) then area i j else 0)
      gains_are l i j =
          ap₂ (λ (k : Run) (h : ℕ). if (k.layer == l) && ((k.major == j) && is_from k.first k.end i) then common_length columns strip.low strip.high i * h else 0) cells_are height_is
          ∙ row_gained strip.low strip.high low_is high_is l i j

      pub rows_on : HasGrown columns now next (strip_gains columns cells strip) → RowsGoing columns rows layer r old next first (row + 1)
      rows_on step = record {
        low = omega (arith, going.low);
        gained = record {
          totals = λ l i j.
              let was = going.gained.totals l i j in
              let is = step.totals l i j in
              let gained = gains_are l i j in
              let both = one_row (layer == l) first row j (area i j) going.low in
              omega (arith, was, is, gained, both);
        };
      }

      pub rows_stop : AreLines columns → AreLines rows → HasGrownAtMost columns now next (strip_gains columns cells strip) → (l i j : ℕ) → total columns next l i j ≤ total columns old l i j + 2 ^ 64
      rows_stop are_columns are_rows step l i j =
          let was = going.gained.totals l i j in
          let is = step.totals l i j in
          let gained = gains_are l i j in
          let both = one_row (layer == l) first row j (area i j) going.low in
          let some = no_more (layer == l) (is_from first (row + 1) j) (area i j) in
          let small = small_area _ _ (length_small columns r.x1 r.x2 i are_columns) (length_small rows r.y1 r.y2 j are_rows) in
          omega (arith, was, is, gained, both, some, small)

  pub row_fits : (old now : SheetSums) (first row : ℕ) → RowsGoing columns rows layer r old now first row → ((i j : ℕ) → total columns old layer i j + 2 ^ 64 ≤ 2 ^ 128)
      → (i : ℕ) → total columns now layer i row + 2 ^ 64 ≤ 2 ^ 128
  row_fits old now first row going fits i =
      let is = going.gained.totals layer i row in
      let none = not_yet (layer == layer) first row (area i row) in
      let room = fits i row in
      omega (arith, is, none, room)

  all_rows : (s t : Bool) (i j : ℕ) → (t ≡ false → common_length rows r.y1 r.y2 j ≡ 0) → (if s && t then area i j else 0) ≡ (if s then area i j else 0)
  all_rows false t i j out = refl
  all_rows true true i j out = refl
  all_rows true false i j out = sym (ap (λ n. common_length columns r.x1 r.x2 i * n) (out refl) ∙ omega arith)

  module _ (old now : SheetSums) (first row : ℕ) (going : RowsGoing columns rows layer r old now first row) where
    -- where all covered rows have gained, all cells have,
    pub rectangle_gained : (end : ℕ) → IsCovered rows r.y1 r.y2 first end → row ≡ end → HasGrown columns old now (rectangle_gains columns rows layer r)
    rectangle_gained end covered is_end = record {
      totals = λ l i j.
          going.gained.totals l i j
          ∙ ap (λ n. total columns old l i j + n) (ap (λ k. if (layer == l) && is_from first k j then area i j else 0) is_end ∙ all_rows (layer == l) (is_from first end j) i j (λ h. covered.outside j h));
    }

    -- and none more than an area
    pub rectangle_at_most : AreLines columns → AreLines rows → (l i j : ℕ) → total columns now l i j ≤ total columns old l i j + 2 ^ 64
    rectangle_at_most are_columns are_rows l i j =
        let is = going.gained.totals l i j in
        let some = no_more (layer == l) (is_from first row j) (area i j) in
        let small = small_area _ _ (length_small columns r.x1 r.x2 i are_columns) (length_small rows r.y1 r.y2 j are_rows) in
        omega (arith, is, some, small)
