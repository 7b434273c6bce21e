-- Parts of an axis, and the rectangle of two.
use Rattle.std.specs.Prelude.{◌≡◌, ℤ}
use Rattle.design_model.specs.Geometry.{IsNear, Rectangle}

abbrev pub box_of : ℤ × ℤ → ℤ × ℤ → Rectangle
box_of x y = record { x1 = x.0; y1 = y.0; x2 = x.1; y2 = y.1 }

-- two ends that are those of a part of an axis, and not too far away
pub record IsSpan (s : ℤ × ℤ) (low high : ℤ) : Type 0 where
  pub from : low ≡ s.0
  pub to : high ≡ s.1
  pub low_near : IsNear low
  pub high_near : IsNear high
