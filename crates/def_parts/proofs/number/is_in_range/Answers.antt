use Rattle.std.proofs.Common.{◌≡◌, refl, List, ℕ, ◌+◌, ◌*◌, ◌≤◌, w32, w64, ℤ, pos, ◌+ℤ◌, ◌-ℤ◌, ◌*ℤ◌, FitsSigned, arith, rules}
use Rattle.std.specs.Prelude.{nat_abs}
use Rattle.std.proofs.Math.Nat.{mul-le-mul}
use Rattle.std.proofs.lemmas.Int.{ints, to_z-of_z, fits_signed_mul, fits_signed_from_abs, unsigned_abs-mul}
use Rattle.std.specs.Int.Signed.{nat_abs-le, le_z}
use Rattle.def_grammar.specs.Limits.{is_in_range}
use Rattle.def_grammar.specs.Numbers.{int_of}
use Rattle.def_parts.proofs.number.is_in_range.Goals as goal

wider : (n : ℤ) → FitsSigned w32 n → FitsSigned w64 n
wider n fits = record { sfits = omega (arith, fits.sfits) }

within : (n : ℤ) → FitsSigned w32 n → nat_abs n ≤ 2147483648
within n fits = nat_abs-le n fits.sfits

one_less : (n : ℤ) → FitsSigned w32 n → nat_abs (n -ℤ pos 1) ≤ 2147483649
one_less n fits = grind (arith, ints)

sum_abs : (a b : ℤ) → nat_abs (a +ℤ b) ≤ nat_abs a + nat_abs b
sum_abs a b = grind (arith, ints)

product_fits : (count step : ℤ) → FitsSigned w32 count → FitsSigned w32 step → FitsSigned w64 ((count -ℤ pos 1) *ℤ step)
product_fits count step f g =
    fits_signed_mul w64 (count -ℤ pos 1) step 2147483649 2147483648 (one_less count f) (within step g) (omega arith)

product_abs : (count step : ℤ) → FitsSigned w32 count → FitsSigned w32 step → nat_abs ((count -ℤ pos 1) *ℤ step) ≤ 2147483649 * 2147483648
product_abs count step f g = rw (unsigned_abs-mul (count -ℤ pos 1) step) (mul-le-mul (one_less count f) (within step g))

last_fits : (start count step : ℤ) → FitsSigned w32 start → FitsSigned w32 count → FitsSigned w32 step → FitsSigned w64 (start +ℤ ((count -ℤ pos 1) *ℤ step))
last_fits start count step e f g =
    fits_signed_from_abs w64 _ (omega (arith, sum_abs start ((count -ℤ pos 1) *ℤ step), within start e, product_abs count step f g))

less_fits : (n : ℤ) → FitsSigned w32 n → FitsSigned w64 (n -ℤ pos 1)
less_fits n f = fits_signed_from_abs w64 _ (omega (arith, one_less n f))

in_range_is : (first all apart : List ℕ) (start count step : ℤ) → start ≡ int_of first → count ≡ int_of all → step ≡ int_of apart → le_z (start +ℤ ((count -ℤ pos 1) *ℤ step)) (pos 2147483647) ≡ is_in_range first all apart
unfolding is_in_range
in_range_is first all apart start count step e f g = rw (e, f, g) refl

pub overflow_mul-result : goal.overflow_mul-result
overflow_mul-result c =
    let f : FitsSigned w32 c.int_of-count.result = search rules in
    let g : FitsSigned w32 c.int_of-step.result = search rules in
    let f64 = wider _ f in
    let g64 = wider _ g in
    let less = less_fits _ f in
    simp to_z-of_z (product_fits _ _ f g)

pub overflow_add-result : goal.overflow_add-result
overflow_add-result c =
    let e : FitsSigned w32 c.int_of-start.result = search rules in
    let f : FitsSigned w32 c.int_of-count.result = search rules in
    let g : FitsSigned w32 c.int_of-step.result = search rules in
    let e64 = wider _ e in
    let f64 = wider _ f in
    let g64 = wider _ g in
    let less = less_fits _ f in
    let product = product_fits _ _ f g in
    simp to_z-of_z (last_fits _ _ _ e f g)

pub returns : goal.returns
returns c =
    let e : FitsSigned w32 c.int_of-start.result = search rules in
    let f : FitsSigned w32 c.int_of-count.result = search rules in
    let g : FitsSigned w32 c.int_of-step.result = search rules in
    let e64 = wider _ e in
    let f64 = wider _ f in
    let g64 = wider _ g in
    let less = less_fits _ f in
    let product = product_fits _ _ f g in
    let last = last_fits _ _ _ e f g in
    simp to_z-of_z (in_range_is _ _ _ _ _ _ c.int_of-start.ensures c.int_of-count.ensures c.int_of-step.ensures)
