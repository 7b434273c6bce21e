-- The wiring of nets and of special nets (LEF/DEF 5.8 Language Reference, "Regular Wiring Statement" and "Special Wiring
-- Statement"): paths of points, vias and rectangles. What a * in a path repeats is the coordinate of the last point.
use Rattle.std.specs.Prelude.{◌⊎◌, ℕ, Bool, not, ◌&&◌, ◌||◌, List, [], ◌∷◌, Option, codes, refl, Some, None}
use Rattle.std.proofs.Common.{inl, inr}
use Rattle.design_model.specs.declared.geometry.Orient.{Orient}
use Rattle.design_model.specs.EnumWords.{orient_word, orients}
use Rattle.form_meanings.specs.Words.{is_word, is_name, is_place, is_plain, is_plus, is_stop}
use Rattle.form_meanings.specs.Meaning.{Seen, find}
use Rattle.statement_model.specs.Form.{Form, empty, word, number, one_of, ◌▸◌, ◌◂◌, ◌⨟◌, alt, opt, many, seen, on, opt_on, limited}
use Rattle.def_grammar.specs.Limits.{is_size, is_copies, is_array}
use Rattle.def_grammar.specs.Parts.{is_some, Coordinates, name, int, orient}
use Rattle.def_grammar.specs.Points.{is_open, coordinate, later_point, Corners, two_numbers, as_corners}
use Rattle.def_grammar.specs.Clauses.{as_list, mask}

-- how wiring was made, in both sections
pub data WiringStatus : Type 0 where
  routed : WiringStatus
  fixed : WiringStatus
  cover : WiringStatus

unfoldable pub wiring_word : WiringStatus → List ℕ
wiring_word routed = codes "ROUTED"
wiring_word fixed = codes "FIXED"
wiring_word cover = codes "COVER"

abbrev pub wiring_statuses : List WiringStatus
wiring_statuses = routed ∷ fixed ∷ cover ∷ []

unfoldable pub wiring_status : Form WiringStatus
wiring_status = one_of wiring_word wiring_statuses

-- a point of a path, and how far the wire goes past it
pub record WirePoint : Type 0 where
  pub at : Coordinates
  pub extension : Option (List ℕ)

abbrev pub as_wire_point : Seen (List ℕ × (List ℕ × Option (List ℕ))) WirePoint
as_wire_point = record {
  to = λ p. record { at = record { x = p.0; y = p.1.0 }; extension = p.1.1 };
  from = λ w. (w.at.x, (w.at.y, w.extension));
  to_from = λ w. refl;
  from_to = λ p. refl;
}

-- [int], 0 or more
abbrev pub extension : Form (Option (List ℕ))
extension = opt is_place (number is_size)

-- ( int int [int] ), which begins a path
unfoldable pub wire_start : Form WirePoint
wire_start = seen as_wire_point (codes "(" ▸ int ⨟ int ⨟ extension ◂ codes ")")

-- ( co co [int] )
unfoldable pub wire_point : Form WirePoint
wire_point = seen as_wire_point (codes "(" ▸ coordinate ⨟ coordinate ⨟ extension ◂ codes ")")

-- ( int int int int ): two corners, from the last point on
unfoldable pub wire_rectangle : Form Corners
wire_rectangle = seen as_corners (codes "(" ▸ two_numbers ⨟ two_numbers ◂ codes ")")

abbrev pub is_orient : List ℕ → Bool
is_orient w = is_some (find orient_word orients w)

-- a via at the last point. A word that is an orientation, right after a via's name, is the via's.
pub record WireVia : Type 0 where
  pub name : List ℕ
  pub orient : Option Orient

abbrev pub as_wire_via : Seen (List ℕ × Option Orient) WireVia
as_wire_via = record { to = λ p. record { name = p.0; orient = p.1 }; from = λ v. (v.name, v.orient); to_from = λ v. refl; from_to = λ p. refl }

-- name [o]
unfoldable pub wire_via : Form WireVia
wire_via = seen as_wire_via (name ⨟ opt is_orient orient)

-- columns and rows of vias, at least one of each and at most 1000000 vias, and how far apart they are
pub record ViaArray : Type 0 where
  pub columns : List ℕ
  pub rows : List ℕ
  pub step : Coordinates

abbrev pub as_via_array : Seen ((List ℕ × List ℕ) × Coordinates) ViaArray
as_via_array = record { to = λ p. record { columns = p.0.0; rows = p.0.1; step = p.1 }; from = λ a. ((a.columns, a.rows), a.step); to_from = λ a. refl; from_to = λ p. refl }

-- int BY int; where there are too many vias, the number after DO is invalid
unfoldable pub array_size : Form (List ℕ × List ℕ)
array_size = limited (λ size. is_array size.0 size.1) 3 (number is_copies ⨟ codes "BY" ▸ number is_copies)

-- int BY int STEP int int, after DO
unfoldable pub via_array : Form ViaArray
via_array = seen as_via_array (array_size ⨟ codes "STEP" ▸ two_numbers)

-- a via of a special net, which may be an array
pub record SpecialVia : Type 0 where
  pub via : WireVia
  pub array : Option ViaArray

abbrev pub as_special_via : Seen (WireVia × Option ViaArray) SpecialVia
as_special_via = record { to = λ p. record { via = p.0; array = p.1 }; from = λ v. (v.via, v.array); to_from = λ v. refl; from_to = λ p. refl }

-- name [o] [DO int BY int STEP int int]
unfoldable pub special_via : Form SpecialVia
special_via = seen as_special_via (wire_via ⨟ opt_on (codes "DO") via_array)

-- what a path goes on with: a mask, a point, a point without wire, a rectangle, or a via
abbrev pub PathItem : Type 0 → Type 0
PathItem Via = List ℕ ⊎ (Coordinates ⊎ (Corners ⊎ (WirePoint ⊎ Via)))

pattern abbrev pub path_mask : {Via : Type 0} → List ℕ → PathItem Via
path_mask word = inl word

pattern abbrev pub path_virtual : {Via : Type 0} → Coordinates → PathItem Via
path_virtual at = inr (inl at)

pattern abbrev pub path_rectangle : {Via : Type 0} → Corners → PathItem Via
path_rectangle corners = inr (inr (inl corners))

pattern abbrev pub path_point : {Via : Type 0} → WirePoint → PathItem Via
path_point at = inr (inr (inr (inl at)))

pattern abbrev pub path_via : {Via : Type 0} → Via → PathItem Via
path_via via = inr (inr (inr (inr via)))

-- the next token goes on with the path: a name but NEW and DO, or (
abbrev pub goes_on : List ℕ → Bool
goes_on w = is_open w || (is_name w && not (is_word (codes "NEW") w || is_word (codes "DO") w))

-- MASK word, VIRTUAL ( co co ), RECT ( int int int int ), ( co co [int] ), or a via
abbrev pub path_item : {Via : Type 0} → Form Via → Form (PathItem Via)
path_item via = on (codes "MASK") (word is_plain) (on (codes "VIRTUAL") later_point (on (codes "RECT") wire_rectangle (alt is_open wire_point via)))

-- a path from a point on
pub record Path (Via : Type 0) : Type 0 where
  pub mask : Option (List ℕ)
  pub start : WirePoint
  pub items : List (PathItem Via)

abbrev pub as_path : {Via : Type 0} → Seen (Option (List ℕ) × (WirePoint × List (PathItem Via))) (Path Via)
as_path {Via = Via} = record { to = λ p. record { mask = p.0; start = p.1.0; items = p.1.1 }; from = λ w. (w.mask, (w.start, w.items)); to_from = λ w. refl; from_to = λ p. refl }

unfoldable pub net_item : Form (PathItem WireVia)
net_item = path_item wire_via

unfoldable pub special_item : Form (PathItem SpecialVia)
special_item = path_item special_via

-- [MASK word] wpt item*
unfoldable pub net_path : Form (Path WireVia)
net_path = seen as_path (mask ⨟ wire_start ⨟ many goes_on net_item)

unfoldable pub special_path : Form (Path SpecialVia)
special_path = seen as_path (mask ⨟ wire_start ⨟ many goes_on special_item)

-- whose width a wire has: that of its layer, that of a rule, or that of its net
abbrev pub Taper : Type 0
Taper = Unit {0} ⊎ (List ℕ ⊎ Unit {0})

pattern abbrev pub tapered : Taper
tapered = inl tt

pattern abbrev pub tapered_by : List ℕ → Taper
tapered_by rule = inr (inl rule)

pattern abbrev pub not_tapered : Taper
not_tapered = inr (inr tt)

-- [TAPER | TAPERRULE name]
unfoldable pub taper : Form Taper
taper = on (codes "TAPER") empty (on (codes "TAPERRULE") name empty)

-- a wire of NETS, from its layer on
pub record Wire : Type 0 where
  pub layer : List ℕ
  pub taper : Taper
  pub style : Option (List ℕ)
  pub path : Path WireVia

abbrev pub as_wire : Seen (List ℕ × (Taper × (Option (List ℕ) × Path WireVia))) Wire
as_wire = record {
  to = λ p. record { layer = p.0; taper = p.1.0; style = p.1.1.0; path = p.1.1.1 };
  from = λ w. (w.layer, (w.taper, (w.style, w.path)));
  to_from = λ w. refl;
  from_to = λ p. refl;
}

-- name [TAPER | TAPERRULE name] [STYLE int] path
unfoldable pub wire : Form Wire
wire = seen as_wire (name ⨟ taper ⨟ opt_on (codes "STYLE") int ⨟ net_path)

-- what stands between the width of a special wire and its path
abbrev pub WireMark : Type 0
WireMark = List ℕ ⊎ (List ℕ ⊎ List ℕ)

pattern abbrev pub wire_shape : List ℕ → WireMark
wire_shape word = inl word

pattern abbrev pub wire_style : List ℕ → WireMark
wire_style n = inr (inl n)

pattern abbrev pub wire_mask : List ℕ → WireMark
wire_mask word = inr (inr word)

-- + SHAPE word, + STYLE int, or + MASK word
unfoldable pub wire_mark : Form WireMark
wire_mark = codes "+" ▸ on (codes "SHAPE") (word is_plain) (on (codes "STYLE") int (codes "MASK" ▸ word is_plain))

-- a wire of SPECIALNETS, from its layer on; its width is 0 or more
pub record SpecialWire : Type 0 where
  pub layer : List ℕ
  pub width : List ℕ
  pub marks : List WireMark
  pub path : Path SpecialVia

abbrev pub as_special_wire : Seen (List ℕ × (List ℕ × (List WireMark × Path SpecialVia))) SpecialWire
as_special_wire = record {
  to = λ p. record { layer = p.0; width = p.1.0; marks = p.1.1.0; path = p.1.1.1 };
  from = λ w. (w.layer, (w.width, (w.marks, w.path)));
  to_from = λ w. refl;
  from_to = λ p. refl;
}

-- name int (+ SHAPE word | + STYLE int | + MASK word)* path
unfoldable pub special_wire : Form SpecialWire
special_wire = seen as_special_wire (name ⨟ number is_size ⨟ many is_plus wire_mark ⨟ special_path)

abbrev pub is_new : List ℕ → Bool
is_new w = is_word (codes "NEW") w

-- NEW wire
unfoldable pub new_wire : Form Wire
new_wire = codes "NEW" ▸ wire

unfoldable pub new_special_wire : Form SpecialWire
new_special_wire = codes "NEW" ▸ special_wire

-- what a wiring clause of NETS begins with: a status, or NOSHIELD
abbrev pub WiringKind : Type 0
WiringKind = Unit {0} ⊎ WiringStatus

pattern abbrev pub noshield : WiringKind
noshield = inl tt

pattern abbrev pub wired : WiringStatus → WiringKind
wired status = inr status

-- a wiring clause of NETS: its wires, one or more
pub record Wiring : Type 0 where
  pub kind : WiringKind
  pub first : Wire
  pub others : List Wire

abbrev pub as_wiring : Seen (WiringKind × (Wire × List Wire)) Wiring
as_wiring = record { to = λ p. record { kind = p.0; first = p.1.0; others = p.1.1 }; from = λ w. (w.kind, (w.first, w.others)); to_from = λ w. refl; from_to = λ p. refl }

-- (ROUTED|FIXED|COVER|NOSHIELD) wire (NEW wire)*
unfoldable pub wiring : Form Wiring
wiring = seen as_wiring (on (codes "NOSHIELD") empty wiring_status ⨟ wire ⨟ many is_new new_wire)

-- what a wiring clause of SPECIALNETS begins with: a status, or SHIELD and the net that it shields
abbrev pub SpecialWiringKind : Type 0
SpecialWiringKind = List ℕ ⊎ WiringStatus

pattern abbrev pub shields : List ℕ → SpecialWiringKind
shields net = inl net

pattern abbrev pub special_wired : WiringStatus → SpecialWiringKind
special_wired status = inr status

-- a wiring clause of SPECIALNETS: its wires, or none
pub record SpecialWiring : Type 0 where
  pub kind : SpecialWiringKind
  pub wires : List SpecialWire

abbrev pub as_special_wiring : Seen (SpecialWiringKind × List SpecialWire) SpecialWiring
as_special_wiring = record { to = λ p. record { kind = p.0; wires = p.1 }; from = λ w. (w.kind, w.wires); to_from = λ w. refl; from_to = λ p. refl }

-- swire (NEW swire)*, or nothing where a + or ; is next
unfoldable pub special_wires : Form (List SpecialWire)
special_wires = seen as_list (opt (λ w. not (is_stop w)) (special_wire ⨟ many is_new new_special_wire))

-- (ROUTED|FIXED|COVER|SHIELD name) [swire (NEW swire)*]
unfoldable pub special_wiring : Form SpecialWiring
special_wiring = seen as_special_wiring (on (codes "SHIELD") name wiring_status ⨟ special_wires)

-- the via that one item of a path names
abbrev pub via_of_item : {Via : Type 0} → (Via → WireVia) → PathItem Via → Option (List ℕ)
via_of_item via_of (path_via via) = Some (via_of via).name
via_of_item via_of _ = None
