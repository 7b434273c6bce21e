-- What a via of a design covers about its origin, in database units, of which there are u in a micron (LEF/DEF 5.8 Language
-- Reference, "Vias" and "Via").
use Rattle.std.specs.Prelude.{ℕ, List, [], ◌∷◌, map, flat_map, Option, Some, None, ℤ, pos}
use Rattle.std.specs.List.{filter_map}
use Rattle.std.specs.Option.{option_map}
use Rattle.design_model.specs.declared.geometry.Point.{Point}
use Rattle.design_model.specs.Geometry.{Rectangle, spanned}
use Rattle.form_meanings.specs.Words.{◌>>=◌}
use Rattle.lef_grammar.specs.Definitions as lef
use Rattle.form_meanings.specs.Firsts.{first_of}
use Rattle.lef_grammar.specs.Library.{Library, via_named}
use Rattle.lef_grammar.specs.Measures.{point_in, point_or_0, rectangle_in}
use Rattle.def_grammar.specs.Numbers.{int_of}
use Rattle.def_grammar.specs.Parts.{Coordinates}
use Rattle.def_grammar.specs.Points.{Corners, corner_points, place_of}
use Rattle.def_grammar.specs.DefVias as def
use Rattle.def_grammar.specs.DefVias.{DefVia, ViaClause, ViaRectangle, ViaLayers, ByLayer, CutArray, via_has_rectangle, cut_size, cut_spacing, enclosure, row_col, via_origin, via_offset, layers_of_clause}
use Rattle.def_grammar.specs.Records.{Record}
use Rattle.wire_rules.specs.Sizes.{as_cuts, as_sizes}
use Rattle.wire_rules.specs.ViaShapes.{NamedShape, GeneratedVia, generated_shapes}
use Rattle.entry_rules.specs.ViaLayers.{by_rule, def_via_named, or_lef, rule_of_via}

-- two corners, of which the second may have a *
abbrev pub box_of_points : List Coordinates → Rectangle
box_of_points (a ∷ b ∷ all) = spanned (place_of a) (place_of b)
box_of_points _ = record { x1 = pos 0; y1 = pos 0; x2 = pos 0; y2 = pos 0 }

abbrev pub box_of : Corners → Rectangle
box_of corners = box_of_points (corner_points corners)

-- the rectangles of a listed via of DEF
abbrev pub listed_shape : ViaClause → Option NamedShape
listed_shape (via_has_rectangle r) = Some (record { layer = r.layer; box = box_of r.corners })
listed_shape _ = None

abbrev pub size_of_clause : ViaClause → Option Point
size_of_clause (cut_size size) = Some (place_of size)
size_of_clause _ = None

abbrev pub spacing_of_clause : ViaClause → Option Point
spacing_of_clause (cut_spacing space) = Some (place_of space)
spacing_of_clause _ = None

-- two points, of the bottom metal and of the top one
abbrev pub Metals : Type 0
Metals = Point × Point

abbrev pub metals_of : ByLayer → Metals
metals_of by = (place_of by.bottom, place_of by.top)

abbrev pub enclosure_of_clause : ViaClause → Option Metals
enclosure_of_clause (enclosure by) = Some (metals_of by)
enclosure_of_clause _ = None

abbrev pub offset_of_clause : ViaClause → Option Metals
offset_of_clause (via_offset by) = Some (metals_of by)
offset_of_clause _ = None

abbrev pub origin_of_clause : ViaClause → Option Point
origin_of_clause (via_origin at) = Some (place_of at)
origin_of_clause _ = None

-- rows and columns of cuts
abbrev pub array_of_clause : ViaClause → Option (ℤ × ℤ)
array_of_clause (row_col array) = Some (int_of array.rows, int_of array.columns)
array_of_clause _ = None

abbrev pub or_else : {A : Type 0} → A → Option A → A
or_else default None = default
or_else default (Some a) = a

abbrev pub origin : Point
origin = record { x = pos 0; y = pos 0 }

-- what a generated via is made of. One without CUTSIZE, LAYERS, CUTSPACING or ENCLOSURE has no shape; without ROWCOL it has one
-- cut, and without ORIGIN and OFFSET it isn't moved.
abbrev pub generated_of : Option Point → Option (List ℕ × (List ℕ × List ℕ)) → Option Point → Option Metals → Option (ℤ × ℤ) → Option Point → Option Metals → Option GeneratedVia
generated_of (Some size) (Some layers) (Some space) (Some by) array at offset = Some (record {
  bottom = layers.0;
  cut = layers.1.0;
  top = layers.1.1;
  cut_size = as_sizes size;
  cut_spacing = as_sizes space;
  rows = as_cuts (or_else (pos 1, pos 1) array).0;
  columns = as_cuts (or_else (pos 1, pos 1) array).1;
  bottom_enclosure = by.0;
  top_enclosure = by.1;
  bottom_offset = (or_else (origin, origin) offset).0;
  top_offset = (or_else (origin, origin) offset).1;
  origin = or_else origin at;
})
generated_of _ _ _ _ _ _ _ = None

abbrev pub shapes_if : Option GeneratedVia → List NamedShape
shapes_if None = []
shapes_if (Some v) = generated_shapes v

abbrev pub layer_names : ViaLayers → List ℕ × (List ℕ × List ℕ)
layer_names l = (l.bottom, (l.cut, l.top))

-- a generated via of DEF, by the first clause of each kind
abbrev pub def_generated : DefVia → Option GeneratedVia
def_generated v =
    generated_of (first_of size_of_clause v.clauses) (option_map layer_names (first_of layers_of_clause v.clauses)) (first_of spacing_of_clause v.clauses)
    (first_of enclosure_of_clause v.clauses) (first_of array_of_clause v.clauses) (first_of origin_of_clause v.clauses) (first_of offset_of_clause v.clauses)

abbrev pub def_via_shapes : DefVia → List NamedShape
def_via_shapes v = by_rule (first_of rule_of_via v.clauses) (filter_map listed_shape v.clauses) (shapes_if (def_generated v))

-- those of LEF, each of whose numbers becomes database units by itself
abbrev pub shapes_on : ℕ → lef.LayerShapes → List NamedShape
shapes_on u s = map (λ r. record { layer = s.layer; box = rectangle_in u r }) s.rectangles

abbrev pub metals_in : ℕ → lef.Distances × lef.Distances → Metals
metals_in u m = (point_in u m.0, point_in u m.1)

abbrev pub lef_generated : ℕ → lef.GeneratedVia → Option GeneratedVia
lef_generated u v =
    generated_of (option_map (point_in u) v.cut_size) v.layers (option_map (point_in u) v.cut_spacing) (option_map (metals_in u) v.enclosure)
    v.row_col (option_map (point_in u) v.origin) (option_map (metals_in u) v.offset)

abbrev pub body_shapes : ℕ → lef.ViaBody → List NamedShape
body_shapes u (lef.listed shapes) = flat_map (shapes_on u) shapes
body_shapes u (lef.generated v) = shapes_if (lef_generated u v)

-- the shapes of the via of a name, which is looked up in DEF first; none where it isn't known
abbrev pub via_shapes : Library → List Record → ℕ → List ℕ → List NamedShape
via_shapes library design u name =
    or_else [] (or_lef (option_map def_via_shapes (def_via_named design name)) (option_map (λ (v : lef.Via). body_shapes u v.body) (via_named library name)))
