-- The lines and cells of a text that reads are in the range of numbers, and so are their areas and densities.
use Rattle.std.proofs.Common.{◌≡◌, ◌≤◌, ◌<◌, ◌^◌, ℕ, zero, suc, ◌+◌, ◌*◌, Bool, true, false, ◌&&◌, List, [], ◌∷◌, length, flat_map, Some, Result, Ok, Err, ℤ, pos, negsuc, nat_abs, ◌+ℤ◌, ◌-ℤ◌, ◌*ℤ◌, ◌≤ℤ◌, arith, if◌then◌else◌}
use Rattle.std.specs.Prelude.{int_lt}
use Rattle.std.specs.Int.Signed.{le_z}
use Rattle.std.specs.List.{All}
use Rattle.std.proofs.lemmas.Bool.{and_parts}
use Rattle.std.proofs.lemmas.Int.{ints, clamps}
use Rattle.std.proofs.lemmas.List.Elements.{All-nil, All-cons, All-head, All-tail}
use Rattle.std.proofs.lemmas.Nat.{mul-le}
use Rattle.design_model.specs.Geometry.{Rectangle}
use Rattle.design_model.specs.Ranges.{IsWithin}
use Rattle.design_model.specs.Units.{whole}
use Rattle.design_model.specs.declared.number.NumFault.{NumFault}
use Rattle.form_meanings.specs.Words.{◌>>=◌}
use Rattle.form_meanings.proofs.Steps.{both_read, some_same}
use Rattle.shape_rules.specs.Classes.{numbers}
use Rattle.def_grammar.specs.Grids.{GridLines}
use Rattle.def_grammar.specs.Limits.{is_in_range, is_lines}
use Rattle.def_grammar.specs.Numbers.{int_of, is_count, number_or_0, passes}
use Rattle.def_grammar.specs.Records.{Record, top}
use Rattle.def_grammar.specs.Top.{gcell_grid}
use Rattle.number_laws.specs.NumberLaws.{DefNumbersPass}
use Rattle.number_laws.specs.PlaceNumbers.{GridLinesNumbers}
use Rattle.number_laws.specs.RecordNumbers.{RecordNumbers}
use Rattle.number_laws.proofs.EachOf.{map_each, flat_map_each}
use Rattle.measure_rules.specs.Density.{extent, area_of}
use Rattle.measure_rules.specs.GridCells.{line_at, lines_of, is_x, lines_along_x, lines_along_y, with_line, in_order, columns, rows, between, cell_among}
use Rattle.measure_laws.specs.RangeLaws.{IsInRange, CellFits, CellsFit, DensitiesFit, LinesFit}
use Rattle.measure_laws.proofs.AxisParts.{cell_of}
use Rattle.measure_laws.proofs.CommonAreas.{densities_are_within}
use Rattle.measure_laws.proofs.PathLengths.{int_within}

at_most : (a b : ℤ) → le_z a b ≡ true → a ≤ℤ b
at_most a b h = grind (arith, ints)

-- a number that passes
number_passes : (t : ℤ → Bool) (r : Result ℤ NumFault) → passes t r ≡ true → t (number_or_0 r) ≡ true
number_passes t (Ok n) e = e
number_passes t (Err f) e = absurd (cc)

-- a line between the first and the last
line_between : (s : ℤ) (n m : ℕ) → nat_abs s ≤ 2147483647 → n ≤ m → (s +ℤ pos m) ≤ℤ pos 2147483647 → nat_abs (s +ℤ pos n) ≤ 2147483647
line_between s n m small less last = omega (arith, ints)

one_less : (c : ℕ) → (pos (suc c) -ℤ pos 1) ≡ pos c
one_less c = omega (arith, ints)

line_within : (s c t : ℤ) (i : ℕ) → nat_abs s ≤ 2147483647 → le_z (pos 1) c ≡ true → le_z (pos 0) t ≡ true → le_z (s +ℤ ((c -ℤ pos 1) *ℤ t)) (pos 2147483647) ≡ true → i < nat_abs c
    → nat_abs (s +ℤ pos i *ℤ t) ≤ 2147483647
line_within s (negsuc c) t i small some up last less = absurd (cc)
line_within s (pos zero) t i small some up last less = absurd (omega arith)
line_within s (pos (suc c)) (negsuc t) i small some up last less = absurd (cc)
line_within s (pos (suc c)) (pos t) i small some up last less =
    line_between s (i * t) (c * t) small (mul-le i t c t (omega arith) (omega arith)) (at_most (s +ℤ pos (c * t)) (pos 2147483647) (rw (one_less c) at last))

numbers_each : (P : ℕ → Type 0) (a n : ℕ) → ((i : ℕ) → i < a + n → P i) → All P (numbers a n)
unfolding numbers
numbers_each P a zero each = All-nil P
numbers_each P a (suc n) each = All-cons P a (numbers (suc a) n) (each a (omega arith)) (numbers_each P (suc a) n (λ i less. each i (omega arith)))

lines_within : (g : GridLines) → GridLinesNumbers g → All IsInRange (lines_of g)
unfolding is_lines is_count is_in_range
lines_within g n =
    let count = and_parts _ _ (number_passes (λ n. le_z (pos 1) n && le_z n (pos 100000)) (whole g.count) n.1) in
    let step = number_passes (λ n. le_z (pos 0) n) (whole g.step) n.2 in
    map_each (line_at g) (λ i. i < nat_abs (int_of g.count)) IsInRange (λ i less. line_within (int_of g.start) (int_of g.count) (int_of g.step) i (int_within g.start) count.0 step n.3 less)
    (numbers 0 (nat_abs (int_of g.count))) (numbers_each (λ i. i < nat_abs (int_of g.count)) 0 (nat_abs (int_of g.count)) (λ i less. omega arith))

lines_if : (b : Bool) (ls : List ℤ) → All IsInRange ls → All IsInRange (if b then ls else [])
lines_if true ls all = all
lines_if false ls all = All-nil IsInRange

lines_unless : (b : Bool) (ls : List ℤ) → All IsInRange ls → All IsInRange (if b then [] else ls)
lines_unless true ls all = All-nil IsInRange
lines_unless false ls all = all

along_x_within : (r : Record) → RecordNumbers r → All IsInRange (lines_along_x r)
along_x_within (top (gcell_grid g)) n = lines_if (is_x g.axis) (lines_of g.lines) (lines_within g.lines n)
along_x_within _ n = All-nil IsInRange

along_y_within : (r : Record) → RecordNumbers r → All IsInRange (lines_along_y r)
along_y_within (top (gcell_grid g)) n = lines_unless (is_x g.axis) (lines_of g.lines) (lines_within g.lines n)
along_y_within _ n = All-nil IsInRange

module _ (P : ℤ → Type 0) where
  with_each : (z : ℤ) (ls : List ℤ) → P z → All P ls → All P (with_line z ls)
  unfolding with_line
  with_each z [] p all = All-cons P z [] p (All-nil P)
  with_each z (l ∷ ls) p all = by (int_lt z l) (int_lt l z) (with_each z ls p (All-tail P l ls all))
    where
      by : (b c : Bool) → All P (with_line z ls) → All P (if b then z ∷ l ∷ ls else (if c then l ∷ with_line z ls else l ∷ ls))
      by true c later = All-cons P z (l ∷ ls) p all
      by false true later = All-cons P l (with_line z ls) (All-head P l ls all) later
      by false false later = all

  in_order_each : (ls : List ℤ) → All P ls → All P (in_order ls)
  unfolding in_order
  in_order_each [] all = All-nil P
  in_order_each (l ∷ ls) all = with_each l (in_order ls) (All-head P l ls all) (in_order_each ls (All-tail P l ls all))

  between_each : (ls : List ℤ) (n : ℕ) (p : ℤ × ℤ) → All P ls → between ls n ≡ Some p → P p.0 × P p.1
  unfolding between
  between_each [] n p all e = absurd (cc)
  between_each (l ∷ []) n p all e = absurd (cc)
  between_each (l ∷ m ∷ ls) zero p all e =
      let q : ℤ × ℤ = (l, m) in
      rw (← some_same q p e) (All-head P l (m ∷ ls) all, All-head P m ls (All-tail P l (m ∷ ls) all))
  between_each (l ∷ m ∷ ls) (suc n) p all e = between_each (m ∷ ls) n p (All-tail P l (m ∷ ls) all) e

extent_within : (a b : ℤ) → IsInRange a → IsInRange b → extent a b ≤ 4294967294
extent_within a b p q = omega (arith, ints, clamps)

area_within : (n m : ℕ) → n ≤ 4294967294 → m ≤ 4294967294 → n * m < 2 ^ 64
area_within n m p q = let r = mul-le n m 4294967294 4294967294 p q in omega (arith, r)

among_within : (xs ys : List ℤ) (i j : ℕ) (cell : Rectangle) → All IsInRange xs → All IsInRange ys → cell_among xs ys i j ≡ Some cell → CellFits cell
among_within xs ys i j cell in_x in_y e =
    let x = both_read (between xs i) (λ x. between ys j >>= λ y. Some (cell_of x y)) cell e in
    let y = both_read (between ys j) (λ y. Some (cell_of x.0 y)) cell x.2 in
    let across = between_each IsInRange xs i x.0 in_x x.1 in
    let up = between_each IsInRange ys j y.0 in_y y.1 in
    rw (← some_same (cell_of x.0 y.0) cell y.2) (record {
      x1 = across.0;
      y1 = up.0;
      x2 = across.1;
      y2 = up.1;
      area = area_within (extent x.0.0 x.0.1) (extent y.0.0 y.0.1) (extent_within x.0.0 x.0.1 across.0 across.1) (extent_within y.0.0 y.0.1 up.0 up.1);
    })

pub cells_fit : DefNumbersPass → CellsFit
cells_fit pass text design e i j cell is =
    let all = pass text design e in
    among_within (columns design) (rows design) i j cell
    (in_order_each IsInRange (flat_map lines_along_x design) (flat_map_each lines_along_x RecordNumbers IsInRange along_x_within design all))
    (in_order_each IsInRange (flat_map lines_along_y design) (flat_map_each lines_along_y RecordNumbers IsInRange along_y_within design all))
    is

pub densities_fit : DensitiesFit
densities_fit cell fits ss layer few =
    let within = densities_are_within ss layer cell in
    let area = fits.area in
    let product = mul-le (length ss) (area_of cell) 18446744073709551615 18446744073709551615 (omega arith) (omega arith) in
    omega (arith, within, product)

near_line : (z : ℤ) → IsInRange z → IsWithin 2147483647 z
near_line z fits = record { low = omega (arith, ints, fits); high = omega (arith, ints, fits) }

all_near : (ls : List ℤ) → All IsInRange ls → All (IsWithin 2147483647) ls
all_near [] all = All-nil (IsWithin 2147483647)
all_near (l ∷ ls) all = All-cons (IsWithin 2147483647) l ls (near_line l (All-head IsInRange l ls all)) (all_near ls (All-tail IsInRange l ls all))

pub lines_fit : DefNumbersPass → LinesFit
lines_fit pass text design e =
    let all = pass text design e in (
      all_near (flat_map lines_along_x design) (flat_map_each lines_along_x RecordNumbers IsInRange along_x_within design all),
      all_near (flat_map lines_along_y design) (flat_map_each lines_along_y RecordNumbers IsInRange along_y_within design all),
    )
