-- How tall boxes are.
use Rattle.std.specs.Prelude.{ℕ, pos, ◌+ℤ◌, ◌≤ℤ◌, List}
use Rattle.std.specs.List.{All}
use Rattle.place_checks.specs.declared.swept_box.SweptBox.{SweptBox}

-- none of the boxes is taller than this
pub record NoneTaller (boxes : List SweptBox) (height : ℕ) : Type 0 where
  pub each : All (λ (b : SweptBox). b.rect.y2 ≤ℤ (b.rect.y1 +ℤ pos height)) boxes
