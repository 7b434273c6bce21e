-- Differences of near numbers fit 64 bits.
use Rattle.std.proofs.Common.{ℤ, pos, ◌-ℤ◌, w64, rules}
use Rattle.std.specs.Int.RustNames.{FitsSigned}
use Rattle.std.proofs.lemmas.Int.{ints}
use Rattle.design_model.specs.Geometry.{IsNear}

pub near_fits : (a : ℤ) → IsNear a → FitsSigned w64 a
near_fits a h = search (rules, ints)

pub negated_fits : (a : ℤ) → IsNear a → FitsSigned w64 (pos 0 -ℤ a)
negated_fits a h = search (rules, ints)

pub difference_fits : (a b : ℤ) → IsNear a → IsNear b → FitsSigned w64 (a -ℤ b)
difference_fits a b h k = search (rules, ints)

pub differences_fit : (a b c : ℤ) → IsNear a → IsNear b → IsNear c → FitsSigned w64 ((a -ℤ b) -ℤ c)
differences_fit a b c h k m = search (rules, ints)
