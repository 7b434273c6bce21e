-- The shapes of a generated via that are left.
use Rattle.std.specs.Prelude.{List, drop}
use Rattle.wire_rules.specs.ViaShapes.{NamedShape, generated_shapes}
use Rattle.wire_shapes.specs.GeneratedViews.{generated_view}
use Rattle.wire_shapes.specs.declared.generated.GeneratedShapes.{GeneratedShapes}

abbrev pub generated_left : GeneratedShapes → List NamedShape
generated_left s = drop s.given (generated_shapes (generated_view s.via))
