-- The places of a line of vias.
use Rattle.std.proofs.Common.{◌≡◌, ℕ, zero, suc, Option, Some, ℤ, pos, ◌+ℤ◌, ◌*ℤ◌, ap, sym, ◌∙◌, refl, arith}
use Rattle.std.proofs.lemmas.Int.{ints}
use Rattle.std.proofs.Math.IntN.{suc_ℤ-*ℤ}
use Rattle.design_model.specs.declared.geometry.Point.{Point}
use Rattle.wire_rules.specs.Paths.{line_of}
use Rattle.wire_shapes.specs.Laws.{LinesOfPlaces}

none_on : (a s : ℤ) → a ≡ a +ℤ (pos 0 *ℤ s)
none_on a s = omega (arith, ints)

turned_round : (a s p : ℤ) → (a +ℤ s) +ℤ p ≡ a +ℤ (p +ℤ s)
turned_round a s p = omega (arith, ints)

one_on : (k : ℕ) (a s : ℤ) → (a +ℤ s) +ℤ (pos k *ℤ s) ≡ a +ℤ (pos (suc k) *ℤ s)
one_on k a s = turned_round a s (pos k *ℤ s) ∙ ap (λ (z : ℤ). a +ℤ z) (sym (suc_ℤ-*ℤ (pos k) s))

point_with : (x y z w : ℤ) → x ≡ z → y ≡ w → ◌≡◌ {A = Option Point} (Some (record { x = x; y = y })) (Some (record { x = z; y = w }))
point_with x y z w e f = rw (e, f) refl

pub lines_of_places : LinesOfPlaces
unfolding line_of
lines_of_places zero k step at few = absurd (omega arith)
lines_of_places (suc n) zero step at few = point_with at.x at.y _ _ (none_on at.x step.x) (none_on at.y step.y)
lines_of_places (suc n) (suc k) step at few =
    lines_of_places n k step (record { x = at.x +ℤ step.x; y = at.y +ℤ step.y }) (omega arith)
    ∙ point_with _ _ _ _ (one_on k at.x step.x) (one_on k at.y step.y)
