-- Worked rows of covering.
use Rattle.std.proofs.Common.{◌≡◌, [], ◌∷◌, true, false, ℤ, pos, refl}
use Rattle.std.specs.Prelude.{neg_ℤ}
use Rattle.design_model.specs.Geometry.{Rectangle}
use Rattle.place_rules.specs.Covering.{is_covered, integers}

abbrev box : ℤ → ℤ → ℤ → ℤ → Rectangle
box x1 y1 x2 y2 = record { x1 = x1; y1 = y1; x2 = x2; y2 = y2 }

upward : integers (neg_ℤ (pos 2)) (pos 2) ≡ neg_ℤ (pos 2) ∷ neg_ℤ (pos 1) ∷ pos 0 ∷ pos 1 ∷ []
upward = refl

none_upward : integers (pos 2) (pos 2) ≡ []
none_upward = refl

by_itself : is_covered (box (pos 0) (pos 0) (pos 3) (pos 2)) (box (pos 0) (pos 0) (pos 3) (pos 2) ∷ []) ≡ true
unfolding is_covered
by_itself = refl

-- two halves that touch, over zero
by_halves : is_covered (box (neg_ℤ (pos 2)) (pos 0) (pos 2) (pos 2)) (box (neg_ℤ (pos 2)) (pos 0) (pos 0) (pos 2) ∷ box (pos 0) (pos 0) (pos 2) (pos 2) ∷ []) ≡ true
unfolding is_covered
by_halves = refl

-- four that turn about the middle, without it and with it
about_a_hole : is_covered (box (pos 0) (pos 0) (pos 3) (pos 3)) (box (pos 0) (pos 0) (pos 2) (pos 1) ∷ box (pos 2) (pos 0) (pos 3) (pos 2) ∷ box (pos 1) (pos 2) (pos 3) (pos 3) ∷ box (pos 0) (pos 1) (pos 1) (pos 3) ∷ []) ≡ false
unfolding is_covered
about_a_hole = refl

with_its_middle : is_covered (box (pos 0) (pos 0) (pos 3) (pos 3)) (box (pos 0) (pos 0) (pos 2) (pos 1) ∷ box (pos 2) (pos 0) (pos 3) (pos 2) ∷ box (pos 1) (pos 2) (pos 3) (pos 3) ∷ box (pos 0) (pos 1) (pos 1) (pos 3) ∷ box (pos 1) (pos 1) (pos 2) (pos 2) ∷ []) ≡ true
unfolding is_covered
with_its_middle = refl

one_unit_short : is_covered (box (pos 0) (pos 0) (pos 3) (pos 2)) (box (pos 0) (pos 0) (pos 2) (pos 2) ∷ []) ≡ false
unfolding is_covered
one_unit_short = refl

by_nothing : is_covered (box (pos 0) (pos 0) (pos 1) (pos 1)) [] ≡ false
unfolding is_covered
by_nothing = refl

a_line : is_covered (box (pos 5) (pos 0) (pos 5) (pos 9)) [] ≡ true
unfolding is_covered
a_line = refl
