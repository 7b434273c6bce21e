-- Turning by an orientation and by its inverse.
use Rattle.std.proofs.Common.{◌≡◌, ℤ, neg_ℤ, ◌≤ℤ◌, arith, refl}
use Rattle.std.specs.Int.{int_min, int_max}
use Rattle.std.proofs.lemmas.Int.{ints, clamps}
use Rattle.design_model.specs.declared.geometry.Orient.TheVariants.{N, W, S, E, FN, FS, FW, FE}
use Rattle.orient_geom.specs.Laws.{TurningBack}

-- the ends of an interval, ordered twice
low : (a b : ℤ) → a ≤ℤ b → int_min (int_min a b) (int_max a b) ≡ a
low a b h = omega (arith, ints, clamps)

high : (a b : ℤ) → a ≤ℤ b → int_max (int_min a b) (int_max a b) ≡ b
high a b h = omega (arith, ints, clamps)

-- the same, about zero and back
low_back : (a b : ℤ) → a ≤ℤ b → int_min (neg_ℤ (int_min (neg_ℤ a) (neg_ℤ b))) (neg_ℤ (int_max (neg_ℤ a) (neg_ℤ b))) ≡ a
low_back a b h = omega (arith, ints, clamps)

high_back : (a b : ℤ) → a ≤ℤ b → int_max (neg_ℤ (int_min (neg_ℤ a) (neg_ℤ b))) (neg_ℤ (int_max (neg_ℤ a) (neg_ℤ b))) ≡ b
high_back a b h = omega (arith, ints, clamps)

pub turning_back : TurningBack
turning_back N r x y = rw (low r.x1 r.x2 x, high r.x1 r.x2 x, low r.y1 r.y2 y, high r.y1 r.y2 y) refl
turning_back W r x y = rw (low r.x1 r.x2 x, high r.x1 r.x2 x, low_back r.y1 r.y2 y, high_back r.y1 r.y2 y) refl
turning_back S r x y = rw (low_back r.x1 r.x2 x, high_back r.x1 r.x2 x, low_back r.y1 r.y2 y, high_back r.y1 r.y2 y) refl
turning_back E r x y = rw (low_back r.x1 r.x2 x, high_back r.x1 r.x2 x, low r.y1 r.y2 y, high r.y1 r.y2 y) refl
turning_back FN r x y = rw (low_back r.x1 r.x2 x, high_back r.x1 r.x2 x, low r.y1 r.y2 y, high r.y1 r.y2 y) refl
turning_back FS r x y = rw (low r.x1 r.x2 x, high r.x1 r.x2 x, low_back r.y1 r.y2 y, high_back r.y1 r.y2 y) refl
turning_back FW r x y = rw (low r.x1 r.x2 x, high r.x1 r.x2 x, low r.y1 r.y2 y, high r.y1 r.y2 y) refl
turning_back FE r x y = rw (low_back r.x1 r.x2 x, high_back r.x1 r.x2 x, low_back r.y1 r.y2 y, high_back r.y1 r.y2 y) refl
