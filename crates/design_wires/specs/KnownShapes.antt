-- The shapes of a via that a table keeps.
use Rattle.std.specs.Prelude.{List, map}
use Rattle.wire_rules.specs.ViaShapes.{NamedShape}
use Rattle.wire_shapes.specs.RuleViews.{shape_view}
use Rattle.design_wires.specs.declared.near_shape.NearShape.{NearShape}
use Rattle.design_wires.specs.declared.known_shapes.KnownShapes as code

abbrev pub near_view : NearShape → NamedShape
near_view s = shape_view s.shape

abbrev pub known_left : code.KnownShapes → List NamedShape
known_left s = map near_view s.left.now
