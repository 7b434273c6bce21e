-- How far the numbers of wires and vias reach, as the grammar of DEF and LEF bounds them.
use Rattle.std.specs.Prelude.{ℕ, ◌*◌, ◌<◌, ◌≤◌, ℤ, pos, neg_ℤ, ◌≤ℤ◌}
use Rattle.design_model.specs.declared.geometry.Point.{Point}
use Rattle.design_model.specs.Geometry.{Rectangle}

-- within plus or minus n
pub record IsWithin (n : ℕ) (z : ℤ) : Type 0 where
  pub low : neg_ℤ (pos n) ≤ℤ z
  pub high : z ≤ℤ pos n

pub record IsPointWithin (n : ℕ) (p : Point) : Type 0 where
  pub x : IsWithin n p.x
  pub y : IsWithin n p.y

pub record IsBoxWithin (n : ℕ) (r : Rectangle) : Type 0 where
  pub x1 : IsWithin n r.x1
  pub y1 : IsWithin n r.y1
  pub x2 : IsWithin n r.x2
  pub y2 : IsWithin n r.y2

-- a length: a width, or how far a wire goes past a point; LEF has up to 1000000 microns of 100000 units each
pub record IsSize (z : ℤ) : Type 0 where
  pub low : pos 0 ≤ℤ z
  pub high : z ≤ℤ pos 100000000000

-- columns and rows of vias, 1 or more of each and at most 1000000 vias in all
pub record IsArray (columns rows : ℕ) : Type 0 where
  pub some : 0 < columns
  pub lines : 0 < rows
  pub across : columns ≤ 1000000
  pub along : rows ≤ 1000000
  pub all : columns * rows ≤ 1000000
