-- Lengths that stretches have in common.
use Rattle.std.proofs.Common.{true, false, sym, ap₂, ◌∙◌, FitsSigned, to_z, of_z, w64, ◌<◌, ◌^◌, ℕ, ℤ, ◌-ℤ◌, ◌≤ℤ◌, ◌<ℤ◌, nat_abs, ◌≤◌, ◌≡◌, ◌*◌, min, List, Option, Some, None, arith}
use Rattle.std.proofs.lemmas.Int.{ints, clamps, to_z-of_z}
use Rattle.std.specs.Int.{int_max, int_min}
use Rattle.std.specs.Int.Signed.{lt_z}
use Rattle.measure_rules.specs.Density.{extent}
use Rattle.design_model.specs.Ranges.{IsWithin}
use Rattle.measure_rules.specs.GridCells.{between}
use Rattle.cell_sums.specs.Blocks.{strip_area}
use Rattle.cell_sums.specs.Lines.{common_length, farthest, shared_by}
use Rattle.cell_sums.specs.declared.runs.Strip.{Strip}

-- nothing lies from a place to one that isn't behind it
pub extent_none : (low high : ℤ) → high ≤ℤ low → extent low high ≡ 0
extent_none low high before = omega (arith, ints, clamps, before)

pub extent_some : (low high : ℤ) → low <ℤ high → nat_abs (high -ℤ low) ≡ extent low high
extent_some low high after = omega (arith, ints, clamps, after)

pub extent_small : (l m low high : ℤ) → IsWithin farthest l → IsWithin farthest m → extent (int_max l low) (int_min m high) < 2 ^ 32
extent_small l m low high left right = omega (arith, ints, clamps, left.low, right.high)

module _ (low high l h : ℤ) (l_fits : FitsSigned w64 l) (h_fits : FitsSigned w64 h) (l_is : l ≡ low) (h_is : h ≡ high) where
  -- what the code takes for an extent
  pub extent_taken : (n : ℕ) → lt_z (to_z w64 (of_z w64 l)) (to_z w64 (of_z w64 h)) ≡ true → n ≡ nat_abs (to_z w64 (of_z w64 h) -ℤ to_z w64 (of_z w64 l)) → n ≡ extent low high
  extent_taken n after is =
      is
      ∙ ap₂ (λ (a b : ℤ). nat_abs (a -ℤ b)) (to_z-of_z w64 h h_fits ∙ h_is) (to_z-of_z w64 l l_fits ∙ l_is)
      ∙ extent_some low high (grind (arith, ints, ap₂ lt_z (sym (to_z-of_z w64 l l_fits ∙ l_is)) (sym (to_z-of_z w64 h h_fits ∙ h_is)) ∙ after))

  pub extent_left : lt_z (to_z w64 (of_z w64 l)) (to_z w64 (of_z w64 h)) ≡ false → 0 ≡ extent low high
  extent_left before =
      sym (extent_none low high (grind (arith, ints, ap₂ lt_z (sym (to_z-of_z w64 l l_fits ∙ l_is)) (sym (to_z-of_z w64 h h_fits ∙ h_is)) ∙ before)))

-- no column has more in common with a stretch than that one is long
extent_within : (l m low high : ℤ) → extent (int_max l low) (int_min m high) ≤ nat_abs (high -ℤ low)
extent_within l m low high = omega (arith, ints, clamps)

shared_within : (low high : ℤ) (o : Option (ℤ × ℤ)) → shared_by low high o ≤ nat_abs (high -ℤ low)
shared_within low high None = omega arith
shared_within low high (Some c) = extent_within c.0 c.1 low high

at_most_times : (a b h : ℕ) → a ≤ b → a * h ≤ b * h
at_most_times a b h le = grind arith

pub area_at_most : (ls : List ℤ) (strip : Strip) (i most : ℕ) → common_length ls strip.low strip.high i < 2 ^ 32 → most ≡ min (nat_abs (strip.high -ℤ strip.low)) 4294967295 → strip_area ls strip i ≤ most * strip.height
area_at_most ls strip i most small is =
    let within = shared_within strip.low strip.high (between ls i) in
    at_most_times _ most strip.height (omega (arith, small, is, within))
