-- Tests of several parts, of which one fails.
use Rattle.std.proofs.Common.{◌≡◌, ℕ, Bool, true, false, refl, arith}
use Rattle.std.specs.Prelude.{◌&&◌, ◌==◌}

pub split : {P : Type 0} (b : Bool) → (b ≡ true → P) → (b ≡ false → P) → P
split true first second = first refl
split false first second = second refl

pub second_fails : (a : Bool) → (a && false) ≡ false
second_fails true = refl
second_fails false = refl

pub third_fails : (a b d : Bool) → (((a && b) && false) && d) ≡ false
third_fails true true d = refl
third_fails true false d = refl
third_fails false b d = refl

pub both_fail : (a b c d : Bool) → (((a && false) && c) && d) ≡ false
both_fail true b c d = refl
both_fail false b c d = refl

-- one number is another, and a third isn't
pub differ : (l m n : ℕ) → (m == l) ≡ true → (n == l) ≡ false → (m == n) ≡ false
differ l m n same other = grind (arith, same, other)

pub differ_too : (l m n : ℕ) → (m == l) ≡ false → (n == l) ≡ true → (m == n) ≡ false
differ_too l m n other same = grind (arith, same, other)
