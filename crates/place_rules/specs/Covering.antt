-- Which boxes a list of rectangles covers, by unit squares.
use Rattle.std.specs.Prelude.{Bool, ◌&&◌, List, map, Contains, ℤ, pos, ◌+ℤ◌, ◌≤ℤ◌, ◌<ℤ◌, int_lt}
use Rattle.std.specs.Int.{int_gap}
use Rattle.std.specs.Int.Signed.{le_z}
use Rattle.std.specs.List.{list_any, list_all, range_with_len}
use Rattle.design_model.specs.Geometry.{Rectangle}

-- the unit square whose lower left corner is (x, y) lies in a rectangle
pub record HasSquare (r : Rectangle) (x y : ℤ) : Type 0 where
  pub left : r.x1 ≤ℤ x
  pub right : x <ℤ r.x2
  pub below : r.y1 ≤ℤ y
  pub above : y <ℤ r.y2

-- a number is at least one number and below another
abbrev pub is_from_to : ℤ → ℤ → ℤ → Bool
is_from_to low high z = le_z low z && int_lt z high

-- the test that a unit square lies in a rectangle
abbrev pub has_square : ℤ → ℤ → Rectangle → Bool
has_square x y r = is_from_to r.x1 r.x2 x && is_from_to r.y1 r.y2 y

-- Rectangles cover a box where each of its unit squares lies in one of them. A box without area has no unit square.
abbrev pub Covered : Rectangle → List Rectangle → Type 0
Covered box list = (x y : ℤ) → HasSquare box x y → (r : Rectangle) × Contains list r × HasSquare r x y

-- the whole numbers from one up to another, without the other
abbrev pub integers : ℤ → ℤ → List ℤ
integers from to = map (λ k. from +ℤ pos k) (range_with_len 0 (int_gap from to))

-- the same, by the lists of the box's x and y
unfoldable pub is_covered : Rectangle → List Rectangle → Bool
is_covered box list = list_all (λ x. list_all (λ y. list_any (has_square x y) list) (integers box.y1 box.y2)) (integers box.x1 box.x2)
