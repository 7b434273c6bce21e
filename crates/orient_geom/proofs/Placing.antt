-- Placing a turned rectangle.
use Rattle.std.proofs.Common.{◌≡◌, ℤ, ◌+ℤ◌, ◌-ℤ◌, ap, ◌∙◌, refl}
use Rattle.design_model.specs.declared.geometry.Point.{Point}
use Rattle.design_model.specs.declared.geometry.Orient.{Orient}
use Rattle.design_model.specs.Geometry.{Rectangle, turned, moved, placed}
use Rattle.wire_rules.specs.Placed.{turned_at}

pub moved_by : (dx dy : ℤ) (r : Rectangle) (x1 y1 x2 y2 : ℤ) → x1 ≡ r.x1 +ℤ dx → y1 ≡ r.y1 +ℤ dy → x2 ≡ r.x2 +ℤ dx → y2 ≡ r.y2 +ℤ dy
    → record { x1 = x1; y1 = y1; x2 = x2; y2 = y2 } ≡ moved dx dy r
moved_by dx dy r x1 y1 x2 y2 left low right high = rw (left, low, right, high) refl

pub placed_is : (o : Orient) (boundary r corner box there : Rectangle) (at : Point) (dx dy : ℤ) → corner ≡ turned o boundary → box ≡ turned o r
    → dx ≡ at.x -ℤ corner.x1 → dy ≡ at.y -ℤ corner.y1 → there ≡ moved dx dy box → there ≡ placed o boundary at r
placed_is o boundary r corner box there at dx dy low turned_r x y goes =
    goes
    ∙ ap (λ (z : ℤ). moved z dy box) x
    ∙ ap (λ (z : ℤ). moved (at.x -ℤ corner.x1) z box) y
    ∙ ap (λ (b : Rectangle). moved (at.x -ℤ corner.x1) (at.y -ℤ corner.y1) b) turned_r
    ∙ ap (λ (b : Rectangle). moved (at.x -ℤ b.x1) (at.y -ℤ b.y1) (turned o r)) low

pub turned_at_is : (o : Orient) (r box there : Rectangle) (at : Point) → box ≡ turned o r → there ≡ moved at.x at.y box → there ≡ turned_at o at r
turned_at_is o r box there at is goes = goes ∙ ap (λ (b : Rectangle). moved at.x at.y b) is
