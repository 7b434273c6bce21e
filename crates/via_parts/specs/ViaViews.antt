-- Entries of VIAS of the program as those of the definitions, and which tokens they are.
use Rattle.std.specs.Prelude.{ℕ, List, Option, codes, IfSome}
use Rattle.std.specs.Option.{option_map}
use Rattle.form_meanings.specs.Words.{is_plus}
use Rattle.form_meanings.specs.Meaning.{items}
use Rattle.statement_model.specs.Form.{Form, on, opt, read, right, spell}
use Rattle.def_grammar.specs.Parts.{Coordinates, name}
use Rattle.def_grammar.specs.Clauses.{list_of}
use Rattle.def_grammar.specs.DefVias.{ViaRectangle, via_rectangle, ViaPolygon, via_polygon, ViaLayers, ByLayer, CutArray, ViaArrayClause, GeneratedClause, generated_clause, plus_mask, ViaClause, via_has_rectangle, via_has_polygon, via_rule, cut_size, on_layers, cut_spacing, enclosure, row_col, via_origin, via_offset, via_kept, via_clause, DefVia}
use Rattle.statement_model.specs.Tokens as tokens
use Rattle.lefdef_tokens.specs.Places.{StandsAt, behind, past}
use Rattle.lefdef_tokens.specs.Views.{rest_of}
use Rattle.lefdef_tokens.specs.declared.token.Token.{Token}
use Rattle.statement_reader.specs.declared.parts.Parts.{Parts}
use Rattle.def_parts.specs.ClauseViews.{KeptAt, OptionAt, kept_view, mask_view}
use Rattle.def_parts.specs.PointViews.{CornersAt, NumbersAt, PointAt, corners_view, later_points, point_view}
use Rattle.statement_reader.specs.PartViews.{PartsAt}
use Rattle.via_parts.specs.declared.vias.PointRow as code_row
use Rattle.via_parts.specs.declared.vias.ViaRectangle as code_rectangle
use Rattle.via_parts.specs.declared.vias.ViaPolygon as code_polygon
use Rattle.via_parts.specs.declared.vias.ViaLayers as code_layers
use Rattle.via_parts.specs.declared.vias.ByLayer as code_by_layer
use Rattle.via_parts.specs.declared.vias.CutArray as code_array
use Rattle.via_parts.specs.declared.vias.ViaClause as code_clause
use Rattle.via_parts.specs.declared.vias.ViaClause.TheVariants as clauses
use Rattle.via_parts.specs.declared.vias.ViaParts as code_via

abbrev pub first_and_later : code_row.PointRow → Coordinates × List Coordinates
first_and_later r = (point_view r.first, later_points r.others)

abbrev pub row_view : Option code_row.PointRow → List Coordinates
row_view row = list_of (option_map first_and_later row)

abbrev pub via_rectangle_view : code_rectangle.ViaRectangle → ViaRectangle
via_rectangle_view r = record { layer = r.layer.bytes.now; mask = mask_view r.mask; corners = corners_view r.corners }

abbrev pub masked_view : Token × Token × Option code_row.PointRow → List ℕ × (List ℕ × List Coordinates)
masked_view p = (p.0.bytes.now, (p.1.bytes.now, row_view p.2))

abbrev pub unmasked_view : Token × Option code_row.PointRow → List ℕ × List Coordinates
unmasked_view p = (p.0.bytes.now, row_view p.1)

abbrev pub via_polygon_view : code_polygon.ViaPolygon → ViaPolygon
via_polygon_view p = record { layer = p.layer.bytes.now; mask = mask_view p.mask; points = row_view p.points }

abbrev pub via_layers_view : code_layers.ViaLayers → ViaLayers
via_layers_view l = record { bottom = l.bottom.bytes.now; cut = l.cut.bytes.now; top = l.top.bytes.now }

abbrev pub by_layer_view : code_by_layer.ByLayer → ByLayer
by_layer_view b = record { bottom = point_view b.bottom; top = point_view b.top }

abbrev pub cut_array_view : code_array.CutArray → CutArray
cut_array_view a = record { rows = a.rows.bytes.now; columns = a.columns.bytes.now }

-- what a generated via is made of, as a clause
abbrev pub of_generated : Form GeneratedClause → Form ViaClause
of_generated f = right (right (right f))

-- its cuts, and where it and its layers stand, or a clause without meaning, as a clause
abbrev pub of_array : Form ViaArrayClause → Form ViaClause
of_array f = of_generated (right (right (right (right f))))

-- a clause, whatever stands behind it
abbrev pub via_by_word : Form ViaClause
via_by_word = on (codes "RECT") via_rectangle (on (codes "POLYGON") via_polygon (on (codes "VIARULE") name generated_clause))

abbrev pub via_clause_view : code_clause.ViaClause → ViaClause
via_clause_view (clauses.Rectangle rectangle) = via_has_rectangle (via_rectangle_view rectangle)
via_clause_view (clauses.Polygon polygon) = via_has_polygon (via_polygon_view polygon)
via_clause_view (clauses.Rule name) = via_rule name.bytes.now
via_clause_view (clauses.CutSize size) = cut_size (point_view size)
via_clause_view (clauses.Layers layers) = on_layers (via_layers_view layers)
via_clause_view (clauses.CutSpacing space) = cut_spacing (point_view space)
via_clause_view (clauses.Enclosure by) = enclosure (by_layer_view by)
via_clause_view (clauses.RowCol array) = row_col (cut_array_view array)
via_clause_view (clauses.Origin at) = via_origin (point_view at)
via_clause_view (clauses.Offset by) = via_offset (by_layer_view by)
via_clause_view (clauses.Other clause) = via_kept (kept_view clause)

-- the clauses that are left
abbrev pub via_clauses_of : Parts code_clause.ViaClause → List ViaClause
via_clauses_of parts = items parts.most is_plus (read via_clause) (rest_of parts.cursor)

abbrev pub via_view : code_via.ViaParts → DefVia
via_view v = record { name = v.name.bytes.now; clauses = via_clauses_of v.clauses }

-- of these tokens, the first four are the first point
abbrev pub RowAt : List tokens.Token → code_row.PointRow → Type 0
RowAt ps r = PointAt ps r.first × PartsAt (past 4 ps) r.others

abbrev pub MaybeRowAt : List tokens.Token → Option code_row.PointRow → Type 0
MaybeRowAt ps row = IfSome row (λ r. RowAt ps r)

-- the word behind + MASK
abbrev pub PlusMaskAt : List tokens.Token → Option Token → Type 0
PlusMaskAt ps mask = OptionAt (past 2 ps) mask

-- what stands behind a mask that may be there
abbrev pub behind_mask : Option Token → List tokens.Token → List tokens.Token
behind_mask mask ps = behind (spell (opt is_plus plus_mask) (mask_view mask)) ps

-- of these tokens, the first is the layer
abbrev pub ViaRectangleAt : List tokens.Token → code_rectangle.ViaRectangle → Type 0
ViaRectangleAt ps r = StandsAt ps r.layer × PlusMaskAt (past 1 ps) r.mask × CornersAt (behind_mask r.mask (past 1 ps)) r.corners

abbrev pub ViaPolygonAt : List tokens.Token → code_polygon.ViaPolygon → Type 0
ViaPolygonAt ps p = StandsAt ps p.layer × PlusMaskAt (past 1 ps) p.mask × MaybeRowAt (behind_mask p.mask (past 1 ps)) p.points

-- the first three of these tokens
abbrev pub ViaLayersAt : List tokens.Token → code_layers.ViaLayers → Type 0
ViaLayersAt ps l = StandsAt ps l.bottom × StandsAt (past 1 ps) l.cut × StandsAt (past 2 ps) l.top

abbrev pub ByLayerAt : List tokens.Token → code_by_layer.ByLayer → Type 0
ByLayerAt ps b = NumbersAt ps b.bottom × NumbersAt (past 2 ps) b.top

abbrev pub CutArrayAt : List tokens.Token → code_array.CutArray → Type 0
CutArrayAt ps a = StandsAt ps a.rows × StandsAt (past 1 ps) a.columns

-- behind the clause's word, or from it on where it means nothing
abbrev pub ViaClauseAt : List tokens.Token → code_clause.ViaClause → Type 0
ViaClauseAt ps (clauses.Rectangle rectangle) = ViaRectangleAt (past 1 ps) rectangle
ViaClauseAt ps (clauses.Polygon polygon) = ViaPolygonAt (past 1 ps) polygon
ViaClauseAt ps (clauses.Rule name) = StandsAt (past 1 ps) name
ViaClauseAt ps (clauses.CutSize size) = NumbersAt (past 1 ps) size
ViaClauseAt ps (clauses.Layers layers) = ViaLayersAt (past 1 ps) layers
ViaClauseAt ps (clauses.CutSpacing space) = NumbersAt (past 1 ps) space
ViaClauseAt ps (clauses.Enclosure by) = ByLayerAt (past 1 ps) by
ViaClauseAt ps (clauses.RowCol array) = CutArrayAt (past 1 ps) array
ViaClauseAt ps (clauses.Origin at) = NumbersAt (past 1 ps) at
ViaClauseAt ps (clauses.Offset by) = ByLayerAt (past 1 ps) by
ViaClauseAt ps (clauses.Other clause) = KeptAt ps clause

-- of these tokens, the second is the name, and behind it come the clauses
abbrev pub ViaAt : List tokens.Token → code_via.ViaParts → Type 0
ViaAt ps v = StandsAt (past 1 ps) v.name × PartsAt (past 2 ps) v.clauses
