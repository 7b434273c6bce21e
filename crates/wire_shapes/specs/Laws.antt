-- What the definitions of wires and vias mean.
use Rattle.std.specs.Prelude.{◌≡◌, ℕ, ◌<◌, List, map, slice_get, Some, ℤ, pos, ◌≤ℤ◌, ◌+ℤ◌, ◌*ℤ◌}
use Rattle.std.specs.List.{All}
use Rattle.design_model.specs.declared.geometry.Orient.{Orient}
use Rattle.design_model.specs.declared.geometry.Point.{Point}
use Rattle.design_model.specs.Geometry.{Rectangle}
use Rattle.orient_geom.specs.Laws.{inverse}
use Rattle.wire_rules.specs.Paths.{line_of, segment, segment_between, turned_shape}
use Rattle.wire_rules.specs.ViaShapes.{NamedShape}

-- a point lies in a rectangle or on its edge
pub record Holds (r : Rectangle) (p : Point) : Type 0 where
  pub left : r.x1 ≤ℤ p.x
  pub right : p.x ≤ℤ r.x2
  pub below : r.y1 ≤ℤ p.y
  pub above : p.y ≤ℤ r.y2

-- The rectangle of a wire that is no less than 0 wide and goes no less than 0 past each of two points holds both.
abbrev pub SegmentHoldsItsEnds : Type 0
SegmentHoldsItsEnds =
    (layer : List ℕ) (width : ℤ) (a : Point) (past_a : ℤ) (b : Point) (past_b : ℤ) (s : NamedShape) (length : ℕ)
    → pos 0 ≤ℤ width → pos 0 ≤ℤ past_a → pos 0 ≤ℤ past_b
    → segment_between layer width a past_a b past_b ≡ segment s length
    → Holds s.box a × Holds s.box b

-- a shape's corners are in order
pub record IsOrdered (s : NamedShape) : Type 0 where
  pub wide : s.box.x1 ≤ℤ s.box.x2
  pub high : s.box.y1 ≤ℤ s.box.y2

abbrev pub origin : Point
origin = record { x = pos 0; y = pos 0 }

-- Turning the shapes of a via by an orientation and then by its inverse gives them back.
abbrev pub TurningViasBack : Type 0
TurningViasBack =
    (o : Orient) (shapes : List NamedShape) → All IsOrdered shapes
    → map (turned_shape (inverse o) origin) (map (turned_shape o origin) shapes) ≡ shapes

-- The k-th place of a line is k steps from its first.
abbrev pub LinesOfPlaces : Type 0
LinesOfPlaces =
    (n k : ℕ) (step at : Point) → k < n
    → slice_get (line_of n step at) k ≡ Some (record { x = at.x +ℤ (pos k *ℤ step.x); y = at.y +ℤ (pos k *ℤ step.y) })
