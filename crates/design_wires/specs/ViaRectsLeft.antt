-- The shapes of a via about its origin that are left to be given: rectangles of the clauses that are left, those of LEF on a
-- layer and on the layers after it, or what is left of a generated via.
use Rattle.std.specs.Prelude.{List, [], ◌++◌, map, flat_map, Option, Some, None}
use Rattle.std.specs.List.{filter_map}
use Rattle.statement_reader.specs.declared.parts.Parts.{Parts}
use Rattle.via_parts.specs.ViaViews.{via_clauses_of}
use Rattle.via_parts.specs.declared.vias.ViaClause.{ViaClause}
use Rattle.cell_library.specs.Numbers.{rectangle_view}
use Rattle.cell_library.specs.ShapeViews.{shapes_view}
use Rattle.net_rules.specs.ViaRectangles.{listed_shape, shapes_on}
use Rattle.wire_rules.specs.ViaShapes.{NamedShape}
use Rattle.wire_shapes.specs.GeneratedLeft.{generated_left}
use Rattle.wire_shapes.specs.declared.generated.GeneratedShapes.{GeneratedShapes}
use Rattle.design_wires.specs.Scales.{units_of}
use Rattle.design_wires.specs.declared.layer_rects.LayerRects.{LayerRects}
use Rattle.design_wires.specs.declared.via_rects.ViaRects.{ViaRects}
use Rattle.design_wires.specs.declared.via_rects.RectsLeft.{RectsLeft}
use Rattle.design_wires.specs.declared.via_rects.RectsLeft.TheVariants.{Clauses, Layers, Generated}

abbrev pub clauses_left : Parts ViaClause → List NamedShape
clauses_left parts = filter_map listed_shape (via_clauses_of parts)

abbrev pub layers_left : {A : Type 0} → LayerRects A → List NamedShape
layers_left s =
    shapes_on (units_of s.scale) (record { layer = s.layer.now; rectangles = map rectangle_view s.rectangles.now })
    ++ flat_map (shapes_on (units_of s.scale)) (map shapes_view s.later.now)

abbrev pub generated_if_left : Option GeneratedShapes → List NamedShape
generated_if_left None = []
generated_if_left (Some shapes) = generated_left shapes

abbrev pub rects_of : {A : Type 0} → RectsLeft A → List NamedShape
rects_of (Clauses parts) = clauses_left parts
rects_of (Layers shapes) = layers_left shapes
rects_of (Generated shapes) = generated_if_left shapes

abbrev pub rects_left : {A : Type 0} → ViaRects A → List NamedShape
rects_left s = rects_of s.left
