-- What meeting and sharing mean.
use Rattle.std.specs.Prelude.{◌≡◌, ◌↔◌, Some, None, ℤ, ◌≤ℤ◌}
use Rattle.design_model.specs.Geometry.{Rectangle}
use Rattle.shape_rules.specs.Meeting.{meets, common}

-- a point lies in a closed rectangle
pub record HasPoint (r : Rectangle) (x y : ℤ) : Type 0 where
  pub left : r.x1 ≤ℤ x
  pub right : x ≤ℤ r.x2
  pub below : r.y1 ≤ℤ y
  pub above : y ≤ℤ r.y2

-- the corners are in order
pub record IsOrdered (r : Rectangle) : Type 0 where
  pub wide : r.x1 ≤ℤ r.x2
  pub high : r.y1 ≤ℤ r.y2

-- Which of two rectangles comes first makes no difference to whether they meet,
abbrev pub MeetingIsSymmetric : Type 0
MeetingIsSymmetric = (a b : Rectangle) → meets a b ≡ meets b a

-- nor to what they share.
abbrev pub CommonIsSymmetric : Type 0
CommonIsSymmetric = (a b : Rectangle) → common a b ≡ common b a

-- A point lies in both of two rectangles that meet exactly where it lies in what they share.
abbrev pub CommonHasSharedPoints : Type 0
CommonHasSharedPoints = (a b c : Rectangle) → common a b ≡ Some c → (x y : ℤ) → (HasPoint a x y × HasPoint b x y) ↔ HasPoint c x y

-- Two rectangles share nothing exactly where no point lies in both.
abbrev pub NoneIsApart : Type 0
NoneIsApart = (a b : Rectangle) → IsOrdered a → IsOrdered b → (common a b ≡ None) ↔ ((x y : ℤ) → HasPoint a x y → ¬ HasPoint b x y)
