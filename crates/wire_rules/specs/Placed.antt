-- Where a shape lies that is given about an origin, as a pin's or a via's is (LEF/DEF 5.8 Language Reference, "Pins" and
-- "Specifying Orientation").
use Rattle.design_model.specs.declared.geometry.Orient.{Orient}
use Rattle.design_model.specs.declared.geometry.Point.{Point}
use Rattle.design_model.specs.Geometry.{Rectangle, moved, turned}

-- a rectangle, turned about the origin and then moved so that the origin is at a point
abbrev pub turned_at : Orient → Point → Rectangle → Rectangle
turned_at o at r = moved at.x at.y (turned o r)
