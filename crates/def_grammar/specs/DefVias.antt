-- The section VIAS (LEF/DEF 5.8 Language Reference, "Vias").
use Rattle.std.specs.Prelude.{◌≡◌, ◌⊎◌, ℕ, List, Option, Some, None, codes, refl}
use Rattle.std.proofs.Common.{inl, inr}
use Rattle.form_meanings.specs.Words.{is_plain, is_plus, is_stop}
use Rattle.form_meanings.specs.Meaning.{Seen}
use Rattle.statement_model.specs.Form.{Form, word, number, ◌▸◌, ◌◂◌, ◌⨟◌, closed, opt, many, or_else, seen, on}
use Rattle.def_grammar.specs.Limits.{is_size, is_cuts}
use Rattle.def_grammar.specs.Parts.{Coordinates, as_point, name}
use Rattle.def_grammar.specs.Points.{points, Corners, corners, two_numbers}
use Rattle.def_grammar.specs.Clauses.{KeptClause, kept_clause}

-- + MASK word
abbrev pub plus_mask : Form (List ℕ)
plus_mask = codes "+" ▸ codes "MASK" ▸ word is_plain

-- a rectangle of a via on a layer
pub record ViaRectangle : Type 0 where
  pub layer : List ℕ
  pub mask : Option (List ℕ)
  pub corners : Corners

abbrev pub as_via_rectangle : Seen (List ℕ × (Option (List ℕ) × Corners)) ViaRectangle
as_via_rectangle = record { to = λ p. record { layer = p.0; mask = p.1.0; corners = p.1.1 }; from = λ v. (v.layer, (v.mask, v.corners)); to_from = λ v. refl; from_to = λ p. refl }

-- name [+ MASK word] pt pt, after RECT
unfoldable pub via_rectangle : Form ViaRectangle
via_rectangle = seen as_via_rectangle (name ⨟ opt is_plus plus_mask ⨟ corners)

-- a polygon of a via on a layer
pub record ViaPolygon : Type 0 where
  pub layer : List ℕ
  pub mask : Option (List ℕ)
  pub points : List Coordinates

-- a polygon with its mask, or one without
abbrev pub MaskedOrNot : Type 0
MaskedOrNot = (List ℕ × (List ℕ × List Coordinates)) ⊎ (List ℕ × List Coordinates)

abbrev pub polygon_of : MaskedOrNot → ViaPolygon
polygon_of (inl p) = record { layer = p.0; mask = Some p.1.0; points = p.1.1 }
polygon_of (inr p) = record { layer = p.0; mask = None; points = p.1 }

abbrev pub parts_by_mask : List ℕ → List Coordinates → Option (List ℕ) → MaskedOrNot
parts_by_mask layer at (Some mask) = inl (layer, (mask, at))
parts_by_mask layer at None = inr (layer, at)

abbrev pub polygon_parts : ViaPolygon → MaskedOrNot
polygon_parts p = parts_by_mask p.layer p.points p.mask

pub same_by_mask : (layer : List ℕ) (at : List Coordinates) (mask : Option (List ℕ)) → polygon_of (parts_by_mask layer at mask) ≡ record { layer = layer; mask = mask; points = at }
same_by_mask layer at (Some mask) = refl
same_by_mask layer at None = refl

pub same_polygon : (p : ViaPolygon) → polygon_of (polygon_parts p) ≡ p
same_polygon p = same_by_mask p.layer p.points p.mask

pub same_polygon_parts : (x : MaskedOrNot) → polygon_parts (polygon_of x) ≡ x
same_polygon_parts (inl p) = refl
same_polygon_parts (inr p) = refl

abbrev pub as_via_polygon : Seen MaskedOrNot ViaPolygon
as_via_polygon = record { to = polygon_of; from = polygon_parts; to_from = same_polygon; from_to = same_polygon_parts }

-- name [+ MASK word] pt*, after POLYGON, up to a + or ;. The longest fit: the MASK is the polygon's where what stands after
-- it are points up to a + or ;, and else a clause of its own. Code reads the form with its mask first, and where that
-- doesn't fit, the one without.
unfoldable pub via_polygon : Form ViaPolygon
via_polygon = seen as_via_polygon (or_else (closed is_stop (name ⨟ plus_mask ⨟ points)) (closed is_stop (name ⨟ points)))

-- the layers of a generated via: below, cut, above
pub record ViaLayers : Type 0 where
  pub bottom : List ℕ
  pub cut : List ℕ
  pub top : List ℕ

abbrev pub as_via_layers : Seen (List ℕ × (List ℕ × List ℕ)) ViaLayers
as_via_layers = record { to = λ p. record { bottom = p.0; cut = p.1.0; top = p.1.1 }; from = λ l. (l.bottom, (l.cut, l.top)); to_from = λ l. refl; from_to = λ p. refl }

-- how far the layers of a generated via go past its cuts, or are moved
pub record ByLayer : Type 0 where
  pub bottom : Coordinates
  pub top : Coordinates

abbrev pub as_by_layer : Seen (Coordinates × Coordinates) ByLayer
as_by_layer = record { to = λ p. record { bottom = p.0; top = p.1 }; from = λ b. (b.bottom, b.top); to_from = λ b. refl; from_to = λ p. refl }

-- the rows and columns of a generated via's cuts
pub record CutArray : Type 0 where
  pub rows : List ℕ
  pub columns : List ℕ

abbrev pub as_cut_array : Seen (List ℕ × List ℕ) CutArray
as_cut_array = record { to = λ p. record { rows = p.0; columns = p.1 }; from = λ a. (a.rows, a.columns); to_from = λ a. refl; from_to = λ p. refl }

-- int int, each 0 or more
unfoldable pub two_sizes : Form Coordinates
two_sizes = seen as_point (number is_size ⨟ number is_size)

-- name name name, after LAYERS
unfoldable pub via_layers : Form ViaLayers
via_layers = seen as_via_layers (name ⨟ name ⨟ name)

-- int int int int
unfoldable pub by_layer : Form ByLayer
by_layer = seen as_by_layer (two_numbers ⨟ two_numbers)

-- int int, after ROWCOL
unfoldable pub cut_array : Form CutArray
cut_array = seen as_cut_array (number is_cuts ⨟ number is_cuts)

-- where a generated via and its layers stand, and its cuts; or a clause without meaning
abbrev pub ViaArrayClause : Type 0
ViaArrayClause = CutArray ⊎ (Coordinates ⊎ (ByLayer ⊎ KeptClause))

-- what a generated via is made of
abbrev pub GeneratedClause : Type 0
GeneratedClause = Coordinates ⊎ (ViaLayers ⊎ (Coordinates ⊎ (ByLayer ⊎ ViaArrayClause)))

-- a clause of an entry, without its +
abbrev pub ViaClause : Type 0
ViaClause = ViaRectangle ⊎ (ViaPolygon ⊎ (List ℕ ⊎ GeneratedClause))

pattern abbrev pub via_has_rectangle : ViaRectangle → ViaClause
via_has_rectangle rectangle = inl rectangle

pattern abbrev pub via_has_polygon : ViaPolygon → ViaClause
via_has_polygon polygon = inr (inl polygon)

pattern abbrev pub via_rule : List ℕ → ViaClause
via_rule name = inr (inr (inl name))

pattern abbrev pub cut_size : Coordinates → ViaClause
cut_size size = inr (inr (inr (inl size)))

pattern abbrev pub on_layers : ViaLayers → ViaClause
on_layers layers = inr (inr (inr (inr (inl layers))))

pattern abbrev pub cut_spacing : Coordinates → ViaClause
cut_spacing space = inr (inr (inr (inr (inr (inl space)))))

pattern abbrev pub enclosure : ByLayer → ViaClause
enclosure by = inr (inr (inr (inr (inr (inr (inl by))))))

pattern abbrev pub row_col : CutArray → ViaClause
row_col array = inr (inr (inr (inr (inr (inr (inr (inl array)))))))

pattern abbrev pub via_origin : Coordinates → ViaClause
via_origin at = inr (inr (inr (inr (inr (inr (inr (inr (inl at))))))))

pattern abbrev pub via_offset : ByLayer → ViaClause
via_offset by = inr (inr (inr (inr (inr (inr (inr (inr (inr (inl by)))))))))

pattern abbrev pub via_kept : KeptClause → ViaClause
via_kept clause = inr (inr (inr (inr (inr (inr (inr (inr (inr (inr clause)))))))))

-- ROWCOL int int, ORIGIN int int, OFFSET int int int int, or word rest
unfoldable pub via_array_clause : Form ViaArrayClause
via_array_clause = on (codes "ROWCOL") cut_array (on (codes "ORIGIN") two_numbers (on (codes "OFFSET") by_layer kept_clause))

-- CUTSIZE int int, LAYERS name name name, CUTSPACING int int, ENCLOSURE int int int int, or the others
unfoldable pub generated_clause : Form GeneratedClause
generated_clause =
    on (codes "CUTSIZE") two_sizes (on (codes "LAYERS") via_layers (on (codes "CUTSPACING") two_sizes (on (codes "ENCLOSURE") by_layer via_array_clause)))

-- RECT .., POLYGON .., VIARULE name, or the others, each after a + and before a + or ;
unfoldable pub via_clause : Form ViaClause
via_clause = codes "+" ▸ closed is_stop (on (codes "RECT") via_rectangle (on (codes "POLYGON") via_polygon (on (codes "VIARULE") name generated_clause)))

-- an entry: its name, and its clauses
pub record DefVia : Type 0 where
  pub name : List ℕ
  pub clauses : List ViaClause

abbrev pub as_def_via : Seen (List ℕ × List ViaClause) DefVia
as_def_via = record { to = λ p. record { name = p.0; clauses = p.1 }; from = λ v. (v.name, v.clauses); to_from = λ v. refl; from_to = λ p. refl }

-- - name (+ clause)* ;
unfoldable pub def_via_form : Form DefVia
def_via_form = seen as_def_via (codes "-" ▸ name ⨟ many is_plus via_clause ◂ codes ";")

-- what one clause says: the layers of a generated via, and the layer of a shape
abbrev pub layers_of_clause : ViaClause → Option ViaLayers
layers_of_clause (on_layers layers) = Some layers
layers_of_clause _ = None

abbrev pub layer_of_shape : ViaClause → Option (List ℕ)
layer_of_shape (via_has_rectangle r) = Some r.layer
layer_of_shape (via_has_polygon p) = Some p.layer
layer_of_shape _ = None
