-- Numbers of wires, as the program's words have them.
use Rattle.std.proofs.Common.{◌≡◌, ℤ, ◌-ℤ◌, nat_abs, ap, subst, sym, ◌∙◌, refl, arith}
use Rattle.std.proofs.lemmas.Int.{ints}
use mir.Syntax.{w64}
use mir.Val.{to_z, of_z}
use Rattle.design_model.specs.Ranges.{IsSize, IsWithin}

abbrev pub word : ℤ → ℤ
word z = to_z w64 (of_z w64 z)

pub coordinate : (z : ℤ) → IsWithin 2147483647 z → word z ≡ z
coordinate z w = omega (arith, ints)

pub size : (z : ℤ) → IsSize z → word z ≡ z
size z s = omega (arith, ints)

module _ (a b : ℤ) (v : IsWithin 2147483647 a) (w : IsWithin 2147483647 b) where
  pub same_number : of_z w64 a ≡ of_z w64 b → a ≡ b
  same_number e = sym (coordinate a v) ∙ ap (to_z w64) e ∙ coordinate b w

  pub other_number : (of_z w64 a ≡ of_z w64 b → ⊥) → a ≡ b → ⊥
  other_number differ e = differ (ap (of_z w64) e)

  pub distance : nat_abs (word a -ℤ word b) ≡ nat_abs (a -ℤ b)
  distance = rw (coordinate a v, coordinate b w) refl

-- what is said of three sizes as the program has them
pub sizes : (P : ℤ → ℤ → ℤ → Type 0) (a b c : ℤ) → IsSize a → IsSize b → IsSize c → P (word a) (word b) (word c) → P a b c
sizes P a b c x y z said =
    let first : P a (word b) (word c) = subst (λ (v : ℤ). P v (word b) (word c)) (size a x) said in
    let second : P a b (word c) = subst (λ (v : ℤ). P a v (word c)) (size b y) first in
    subst (λ (v : ℤ). P a b v) (size c z) second
