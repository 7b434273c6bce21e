-- A strip of a box, and how far up it is covered.
use Rattle.std.specs.Prelude.{◌≡◌, false, List, Contains, ℤ, ◌≤ℤ◌, ◌<ℤ◌}
use Rattle.std.specs.List.{list_any}
use Rattle.design_model.specs.Geometry.{Rectangle}
use Rattle.place_rules.specs.Covering.{HasSquare, has_square, Covered}

-- a unit square lies in a rectangle of a list, or in none
pub record HasSquareOf (list : List Rectangle) (x y : ℤ) (r : Rectangle) : Type 0 where
  pub in_list : Contains list r
  pub square : HasSquare r x y

abbrev pub NoneHasSquare : List Rectangle → ℤ → ℤ → Type 0
NoneHasSquare list x y = list_any (has_square x y) list ≡ false

-- the part of a box from one y up to another
abbrev pub strip : Rectangle → ℤ → ℤ → Rectangle
strip box from to = record { x1 = box.x1; y1 = from; x2 = box.x2; y2 = to }

-- rectangles cover a box from a y up to a top, which is above it and within the box
pub record IsCoveredTo (box : Rectangle) (list : List Rectangle) (y top : ℤ) : Type 0 where
  pub above : y <ℤ top
  pub within : top ≤ℤ box.y2
  pub covered : Covered (strip box y top) list
