-- Rectangles of the program on layers as those of the definitions, and what a statement of a via or a pin says of them.
use Rattle.std.specs.Prelude.{ℕ, Bool, false, List, Option, None, map}
use Rattle.std.specs.List.{filter_map}
use Rattle.form_meanings.specs.Firsts.{front}
use Rattle.lef_grammar.specs.Definitions.{Distances, LayerShapes, corners_read, unless_named}
use Rattle.lef_grammar.specs.Extents.{Corners}
use Rattle.lef_grammar.specs.LefRecords.{LefRecord, in_port, in_via}
use Rattle.lef_grammar.specs.PortBlock.{is_unchecked, port_layer_of, port_rect_of}
use Rattle.lef_grammar.specs.ViaBlock.{is_via_polygon, via_layer_of, via_rect_of}
use Rattle.cell_library.specs.Numbers.{rectangle_view}
use Rattle.cell_library.specs.declared.shapes.LayerShapes as code_shapes

abbrev pub shapes_view : {A : Type 0} → code_shapes.LayerShapes A → LayerShapes
shapes_view s = record { layer = s.layer.now; rectangles = map rectangle_view s.rectangles }

abbrev pub layer_in : LefRecord → Option (List ℕ)
layer_in (in_via r) = via_layer_of r
layer_in (in_port r) = port_layer_of r
layer_in _ = None

abbrev pub corners_in : LefRecord → Option Corners
corners_in (in_via r) = via_rect_of r
corners_in (in_port r) = port_rect_of r
corners_in _ = None

abbrev pub is_unchecked_in : LefRecord → Bool
is_unchecked_in (in_via r) = is_via_polygon r
is_unchecked_in (in_port r) = is_unchecked r
is_unchecked_in _ = false

-- behind a LAYER, up to the next
abbrev pub rectangles_behind : List LefRecord → List (Distances × Distances)
rectangles_behind recs = map corners_read (filter_map corners_in (front (λ r. unless_named r (layer_in r)) recs))
