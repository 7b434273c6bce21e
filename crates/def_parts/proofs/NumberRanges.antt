-- How far the numbers of a text reach.
use Rattle.std.proofs.Common.{◌≡◌, ◌≤◌, ℕ, List, Bool, true, false, ℤ, pos, refl, arith}
use Rattle.std.specs.Prelude.{Ok, Err, if◌then◌else◌, nat_le}
use Rattle.std.proofs.lemmas.Bool.{leb-true}
use Rattle.std.proofs.lemmas.Int.{ints}
use Rattle.design_model.specs.Units.{are_digits, decimal_value, is_minus, signed, unsigned, whole}
use Rattle.design_model.specs.declared.number.NumFault.TheVariants.{Form, Range}
use Rattle.def_grammar.specs.Numbers.{int_of, number_or_0}
use Rattle.design_model.specs.Ranges.{IsWithin}
use mir.Syntax.{w32, w64}
use mir.Val.{to_z, of_z}

zero_within : IsWithin 2147483647 (pos 0)
zero_within = record { low = omega (arith, ints); high = omega (arith, ints) }

signed_within : (minus : Bool) (n : ℕ) → n ≤ 2147483647 → IsWithin 2147483647 (signed minus n)
signed_within false n few = record { low = omega (arith, ints); high = omega (arith, ints) }
signed_within true n few = record { low = omega (arith, ints); high = omega (arith, ints) }

number_within : (digits few minus : Bool) (n : ℕ) → (few ≡ true → n ≤ 2147483647)
    → IsWithin 2147483647 (number_or_0 (if digits then (if few then Ok (signed minus n) else Err Range) else Err Form))
number_within false few minus n h = zero_within
number_within true false minus n h = zero_within
number_within true true minus n h = signed_within minus n (h refl)

-- a word that is a number is within plus or minus 2147483647
int_within : (word : List ℕ) → IsWithin 2147483647 (int_of word)
unfolding whole
int_within word =
    number_within (are_digits (unsigned word)) (nat_le (decimal_value (unsigned word)) 2147483647) (is_minus word) (decimal_value (unsigned word))
    (leb-true (decimal_value (unsigned word)) 2147483647)

narrow : (z : ℤ) → IsWithin 2147483647 z → to_z w32 (of_z w32 z) ≡ z
narrow z w = omega (arith, ints)

wide : (z : ℤ) → IsWithin 2147483647 z → to_z w64 (of_z w64 z) ≡ z
wide z w = omega (arith, ints)

-- also as the program's words have it
pub int_in_bits : (z : ℤ) (word : List ℕ) → z ≡ int_of word → IsWithin 2147483647 (to_z w64 (of_z w64 (to_z w32 (of_z w32 z))))
int_in_bits z word e =
    let w : IsWithin 2147483647 z = rw e (int_within word) in
    rw (narrow z w, wide z w) w
