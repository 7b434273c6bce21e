-- Turning, placing and overlapping (LEF/DEF 5.8 Language Reference, "Specifying Orientation").
use Rattle.std.specs.Prelude.{ℕ, ◌^◌, Bool, ◌&&◌, ℤ, pos, neg_ℤ, ◌+ℤ◌, ◌-ℤ◌, ◌≤ℤ◌, int_lt}
use Rattle.std.specs.Int.{int_min, int_max}
use Rattle.design_model.specs.declared.geometry.Point.{Point}
use Rattle.design_model.specs.declared.geometry.Orient.{Orient}
use Rattle.design_model.specs.declared.geometry.Orient.TheVariants.{N, W, S, E, FN, FS, FW, FE}

-- a rectangle by its lower left and its upper right corner
pub record Rectangle : Type 0 where
  pub x1 : ℤ
  pub y1 : ℤ
  pub x2 : ℤ
  pub y2 : ℤ

-- where an orientation sends a point
abbrev pub turned_point : Orient → Point → Point
turned_point N p = record { x = p.x; y = p.y }
turned_point W p = record { x = neg_ℤ p.y; y = p.x }
turned_point S p = record { x = neg_ℤ p.x; y = neg_ℤ p.y }
turned_point E p = record { x = p.y; y = neg_ℤ p.x }
turned_point FN p = record { x = neg_ℤ p.x; y = p.y }
turned_point FS p = record { x = p.x; y = neg_ℤ p.y }
turned_point FW p = record { x = p.y; y = p.x }
turned_point FE p = record { x = neg_ℤ p.y; y = neg_ℤ p.x }

-- the least rectangle round two points
abbrev pub spanned : Point → Point → Rectangle
spanned a b = record { x1 = int_min a.x b.x; y1 = int_min a.y b.y; x2 = int_max a.x b.x; y2 = int_max a.y b.y }

abbrev pub lower_left : Rectangle → Point
lower_left r = record { x = r.x1; y = r.y1 }

abbrev pub upper_right : Rectangle → Point
upper_right r = record { x = r.x2; y = r.y2 }

-- a rectangle, turned about the origin
abbrev pub turned : Orient → Rectangle → Rectangle
turned o r = spanned (turned_point o (lower_left r)) (turned_point o (upper_right r))

abbrev pub moved : ℤ → ℤ → Rectangle → Rectangle
moved dx dy r = record { x1 = r.x1 +ℤ dx; y1 = r.y1 +ℤ dy; x2 = r.x2 +ℤ dx; y2 = r.y2 +ℤ dy }

-- a rectangle of a component with this boundary: turned, and then moved so that the lower left corner of the
-- turned boundary is at a point
abbrev pub placed : Orient → Rectangle → Point → Rectangle → Rectangle
placed o boundary at r = moved (at.x -ℤ (turned o boundary).x1) (at.y -ℤ (turned o boundary).y1) (turned o r)

-- a placed component's box
abbrev pub placed_box : Orient → Rectangle → Point → Rectangle
placed_box o boundary at = placed o boundary at boundary

-- two rectangles share area
abbrev pub overlap : Rectangle → Rectangle → Bool
overlap a b = int_lt (int_max a.x1 b.x1) (int_min a.x2 b.x2) && int_lt (int_max a.y1 b.y1) (int_min a.y2 b.y2)

-- within plus or minus 2 ^ 61
pub record IsNear (z : ℤ) : Type 0 where
  pub low : neg_ℤ (pos (2 ^ 61)) ≤ℤ z
  pub high : z ≤ℤ pos (2 ^ 61)

pub record IsNearRectangle (r : Rectangle) : Type 0 where
  pub x1 : IsNear r.x1
  pub y1 : IsNear r.y1
  pub x2 : IsNear r.x2
  pub y2 : IsNear r.y2
