-- Numbers that pass their tests are taken as they are.
use Rattle.std.proofs.Common.{◌≡◌, ℕ, ◌*◌, ◌≤◌, ◌<◌, Bool, true, false, ◌&&◌, nat_lt, nat_le, List, Result, Ok, Err, ℤ, pos, negsuc, nat_abs, refl, arith, ⊎_elim, if◌then◌else◌}
use Rattle.std.specs.Int.Signed.{le_z}
use Rattle.std.specs.Prelude.{int_lt}
use Rattle.std.proofs.Math.Nat.{le-mul_of_pos_right}
use Rattle.std.proofs.lemmas.Bool.{leb-true, ltb-true, le-leb, lt-ltb, cases_Bool as cases}
use Rattle.std.proofs.Math.Dec.{leb-zero}
use Rattle.design_model.specs.declared.geometry.Point.{Point}
use Rattle.design_model.specs.declared.number.NumFault.{NumFault}
use Rattle.design_model.specs.Units.{Distance, distance, whole, nearest, nearest_size}
use Rattle.def_grammar.specs.Limits.{is_size, is_copies, is_array, is_cuts}
use Rattle.def_grammar.specs.Numbers.{passes, number_or_0, int_of, is_count}
use Rattle.def_grammar.specs.Parts.{Coordinates}
use Rattle.def_grammar.specs.Points.{place_of}
use Rattle.lef_grammar.specs.Definitions.{distance_or_0, distance_read, whole_or_0, whole_read, both_read}
use Rattle.lef_grammar.specs.Extents as lef
use Rattle.lef_grammar.specs.Extents.{is_extent, is_in_array, is_array_count}
use Rattle.lef_grammar.specs.Measures.{point_in}
use Rattle.wire_rules.specs.Sizes as sizes
use Rattle.wire_rules.specs.Sizes.{as_size, as_sizes, as_cuts}
use Rattle.entry_rules.specs.WireItems.{count_of}
use Rattle.number_laws.specs.LefNumbers.{PairPasses}
use Rattle.number_laws.specs.PartNumbers.{Passes, BothPass}
use Rattle.number_laws.specs.SizeLaws.{IsLength, AreLengths, AreCuts}

-- a number that passes
number_passes : (t : ℤ → Bool) (r : Result ℤ NumFault) → passes t r ≡ true → t (number_or_0 r) ≡ true
number_passes t (Ok n) e = e
number_passes t (Err f) e = absurd (cc)

same_if : {A : Type 0} (b : Bool) (x y : A) → b ≡ true → (if b then x else y) ≡ x
same_if b x y e = rw e refl

pub length_by : (z : ℤ) → le_z (pos 0) z ≡ true → IsLength z
length_by z e = same_if (le_z (pos 0) z) z (pos 0) e

pub size_stands : (w : List ℕ) → Passes is_size w → IsLength (int_of w)
unfolding is_count
size_stands w e = length_by (int_of w) (number_passes (λ n. le_z (pos 0) n) (whole w) e)

point_same : (a b c d : ℤ) → a ≡ b → c ≡ d → ◌≡◌ {A = Point} (record { x = a; y = c }) (record { x = b; y = d })
point_same a b c d e f = rw (e, f) refl

pub sizes_stand : (p : Coordinates) → BothPass is_size p → AreLengths (place_of p)
sizes_stand p e = point_same (as_size (int_of p.x)) (int_of p.x) (as_size (int_of p.y)) (int_of p.y) (size_stands p.x e.0) (size_stands p.y e.1)

cuts_by : (z : ℤ) → (le_z (pos 1) z && le_z z (pos 1000000)) ≡ true → as_cuts z ≡ z
cuts_by z e = same_if (le_z (pos 1) z && le_z z (pos 1000000)) z (pos 1) e

pub cuts_stand : (w : List ℕ) → Passes is_cuts w → as_cuts (int_of w) ≡ int_of w
unfolding is_cuts
cuts_stand w e = cuts_by (int_of w) (number_passes (λ n. le_z (pos 1) n && le_z n (pos 1000000)) (whole w) e)

some_by : (z : ℤ) → le_z (pos 1) z ≡ true → 0 < nat_abs z
some_by (pos n) e = leb-true 1 n e
some_by (negsuc n) e = absurd (cc)

copies_some : (w : List ℕ) → Passes is_copies w → 0 < count_of w
unfolding is_copies
copies_some w e = some_by (int_of w) (number_passes (λ n. le_z (pos 1) n) (whole w) e)

array_by : (a b : ℕ) → 0 < a → 0 < b → nat_le (a * b) 1000000 ≡ true → sizes.is_array a b ≡ true
array_by a b p q e =
    let all : a * b ≤ 1000000 = leb-true (a * b) 1000000 e in
    let columns : a ≤ a * b = le-mul_of_pos_right a q in
    let rows : b ≤ a * b = grind (arith, le-mul_of_pos_right b p) in
    let columns_small : a ≤ 1000000 = omega arith in
    let rows_small : b ≤ 1000000 = omega arith in
    rw (lt-ltb 0 a p, lt-ltb 0 b q, le-leb a 1000000 columns_small, le-leb b 1000000 rows_small, e) refl

pub array_stands : (columns rows : List ℕ) → Passes is_copies columns → Passes is_copies rows → is_array columns rows ≡ true → sizes.is_array (count_of columns) (count_of rows) ≡ true
unfolding is_array
array_stands columns rows p q e = array_by (count_of columns) (count_of rows) (copies_some columns p) (copies_some rows q) e

-- LEF
distance_passes : (t : ℤ → Bool) (r : Result Distance NumFault) → lef.passes t r ≡ true → t (distance_or_0 r).value ≡ true
distance_passes t (Ok d) e = e
distance_passes t (Err f) e = absurd (cc)

none_below : (n : ℕ) → n < 0 → ⊥
none_below n e = omega arith

not_below : (z : ℤ) → le_z (pos 0) z ≡ true → int_lt z (pos 0) ≡ false
not_below (pos n) e = ⊎_elim (λ (below : nat_lt n 0 ≡ true). absurd (none_below n (ltb-true n 0 below))) (λ (no : nat_lt n 0 ≡ false). no) (cases (nat_lt n 0))
not_below (negsuc n) e = absurd (cc)

pub extent_stands : (w : List ℕ) → Passes is_extent w → (u : ℕ) → IsLength (nearest (distance_read w) u)
unfolding is_extent
extent_stands w e u =
    let d = distance_read w in
    let not_negative : int_lt d.value (pos 0) ≡ false = not_below d.value (distance_passes (λ v. le_z (pos 0) v) (distance w) e) in
    let there : nearest d u ≡ pos (nearest_size (nat_abs d.value) d.places u) = rw not_negative refl in
    rw there (length_by (pos (nearest_size (nat_abs d.value) d.places u)) (leb-zero (nearest_size (nat_abs d.value) d.places u)))

pub extents_stand : (p : List ℕ × List ℕ) → PairPasses is_extent p → (u : ℕ) → AreLengths (point_in u (both_read p))
extents_stand p e u =
    let x = nearest (distance_read p.0) u in
    let y = nearest (distance_read p.1) u in
    point_same (as_size x) x (as_size y) y (extent_stands p.0 e.0 u) (extent_stands p.1 e.1 u)

count_passes : (r : Result ℤ NumFault) → is_in_array r ≡ true → (le_z (pos 1) (whole_or_0 r) && le_z (whole_or_0 r) (pos 1000000)) ≡ true
count_passes (Ok n) e = e
count_passes (Err f) e = absurd (cc)

count_stands : (w : List ℕ) → Passes is_array_count w → as_cuts (whole_read w) ≡ whole_read w
unfolding is_array_count
count_stands w e = cuts_by (whole_read w) (count_passes (whole w) e)

pub counts_stand : (p : List ℕ × List ℕ) → PairPasses is_array_count p → AreCuts (whole_read p.0, whole_read p.1)
counts_stand p e = (count_stands p.0 e.0, count_stands p.1 e.1)
