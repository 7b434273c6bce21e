-- Points, vias and paths of the program as those of the definitions, and which tokens they are.
use Rattle.std.specs.Prelude.{ℕ, Bool, true, false, List, Option, codes, IfSome}
use Rattle.std.specs.Option.{option_map}
use Rattle.form_meanings.specs.Words.{Rest}
use Rattle.form_meanings.specs.Meaning.{items}
use Rattle.statement_model.specs.Form.{Form, number, read, seen, spell, ◌▸◌, ◌◂◌, ◌⨟◌}
use Rattle.def_grammar.specs.Clauses.{mask}
use Rattle.def_grammar.specs.Limits.{is_copies}
use Rattle.def_grammar.specs.Numbers.{is_int}
use Rattle.def_grammar.specs.Points.{is_coordinate}
use Rattle.def_grammar.specs.Wiring.{WirePoint, WireVia, wire_via, ViaArray, SpecialVia, special_via, PathItem, path_mask, path_virtual, path_rectangle, path_point, path_via, goes_on, path_item, Path, as_wire_point, extension, wire_start}
use Rattle.statement_model.specs.Tokens as tokens
use Rattle.lefdef_tokens.specs.Places.{StandsAt, behind, past}
use Rattle.lefdef_tokens.specs.Views.{rest_of}
use Rattle.lefdef_tokens.specs.Unseens.{unseen_rest}
use Rattle.lefdef_tokens.specs.declared.token.Token.{Token}
use Rattle.lefdef_tokens.specs.declared.unseen.Unseen.{Unseen}
use Rattle.statement_reader.specs.declared.parts.Parts.{Parts}
use Rattle.def_parts.specs.ClauseViews.{MaskAt, OptionAt, mask_view}
use Rattle.def_parts.specs.PointViews.{NumbersAt, PointAt, corners_view, point_view}
use Rattle.def_parts.specs.declared.points.Corners as code_corners
use Rattle.statement_reader.specs.PartViews.{PartsAt}
use Rattle.wire_parts.specs.declared.paths.WirePoint as code_point
use Rattle.wire_parts.specs.declared.paths.WireVia as code_via
use Rattle.wire_parts.specs.declared.paths.ViaArray as code_array
use Rattle.wire_parts.specs.declared.paths.SpecialVia as code_special
use Rattle.wire_parts.specs.declared.paths.PathItem as code_item
use Rattle.wire_parts.specs.declared.paths.PathItem.TheVariants as path_items
use Rattle.wire_parts.specs.declared.paths.Path as code_path

abbrev pub wire_point_view : code_point.WirePoint → WirePoint
wire_point_view p = record { at = point_view p.at; extension = mask_view p.extension }

-- the numbers of a point, where each can be * or none
abbrev pub is_number : Bool → List ℕ → Bool
is_number true = is_coordinate
is_number false = is_int

-- a point of a path, whose numbers can be *, or its first one
abbrev pub point_by : Bool → Form WirePoint
point_by can_be_star = seen as_wire_point (codes "(" ▸ number (is_number can_be_star) ⨟ number (is_number can_be_star) ⨟ extension ◂ codes ")")

-- how far a wire goes past a point, and what is left after it
abbrev pub extension_view : Option Token × Unseen → Option (List ℕ) × Rest
extension_view x = (mask_view x.0, unseen_rest x.1)

abbrev pub wire_via_view : code_via.WireVia → WireVia
wire_via_view v = record { name = v.name.bytes.now; orient = v.orient }

abbrev pub counts_view : Token × Token → List ℕ × List ℕ
counts_view x = (x.0.bytes.now, x.1.bytes.now)

-- int BY int
abbrev pub array_counts : Form (List ℕ × List ℕ)
array_counts = number is_copies ⨟ codes "BY" ▸ number is_copies

abbrev pub via_array_view : code_array.ViaArray → ViaArray
via_array_view a = record { columns = a.columns.bytes.now; rows = a.rows.bytes.now; step = point_view a.step }

abbrev pub special_via_view : code_special.SpecialVia → SpecialVia
special_via_view v = record { via = wire_via_view v.via; array = option_map via_array_view v.array }

abbrev pub item_view : {V Via : Type 0} → (V → Via) → code_item.PathItem V → PathItem Via
item_view view (path_items.Mask word) = path_mask word.bytes.now
item_view view (path_items.Virtual at) = path_virtual (point_view at)
item_view view (path_items.Rectangle corners) = path_rectangle (corners_view corners)
item_view view (path_items.Point at) = path_point (wire_point_view at)
item_view view (path_items.Via via) = path_via (view via)

-- the items that are left of a path
abbrev pub items_of : {V Via : Type 0} → Form Via → Parts (code_item.PathItem V) → List (PathItem Via)
items_of via parts = items parts.most goes_on (read (path_item via)) (rest_of parts.cursor)

abbrev pub path_view : {V Via : Type 0} → Form Via → code_path.Path V → Path Via
path_view via p = record { mask = mask_view p.mask; start = wire_point_view p.start; items = items_of via p.items }

abbrev pub net_path_view : code_path.Path code_via.WireVia → Path WireVia
net_path_view p = path_view wire_via p

abbrev pub special_path_view : code_path.Path code_special.SpecialVia → Path SpecialVia
special_path_view p = path_view special_via p

-- of these tokens, the second is x, the third is y, and the fourth how far the wire goes past them, if it is said
abbrev pub WirePointAt : List tokens.Token → code_point.WirePoint → Type 0
WirePointAt ps p = PointAt ps p.at × OptionAt (past 3 ps) p.extension

abbrev pub WireViaAt : List tokens.Token → code_via.WireVia → Type 0
WireViaAt ps v = StandsAt ps v.name

-- columns BY rows STEP x y
abbrev pub ViaArrayAt : List tokens.Token → code_array.ViaArray → Type 0
ViaArrayAt ps a = StandsAt ps a.columns × StandsAt (past 2 ps) a.rows × NumbersAt (past 4 ps) a.step

-- the array stands behind the via and DO
abbrev pub SpecialViaAt : List tokens.Token → code_special.SpecialVia → Type 0
SpecialViaAt ps v = WireViaAt ps v.via × IfSome v.array (λ a. ViaArrayAt (past 1 (behind (spell wire_via (wire_via_view v.via)) ps)) a)

-- ( x1 y1 x2 y2 )
abbrev pub RectangleAt : List tokens.Token → code_corners.Corners → Type 0
RectangleAt ps c = NumbersAt (past 1 ps) c.first × NumbersAt (past 3 ps) c.second

-- behind its word, if it has one
abbrev pub ItemAt : {V : Type 0} → (List tokens.Token → V → Type 0) → List tokens.Token → code_item.PathItem V → Type 0
ItemAt lent ps (path_items.Mask word) = StandsAt (past 1 ps) word
ItemAt lent ps (path_items.Virtual at) = PointAt (past 1 ps) at
ItemAt lent ps (path_items.Rectangle corners) = RectangleAt (past 1 ps) corners
ItemAt lent ps (path_items.Point at) = WirePointAt ps at
ItemAt lent ps (path_items.Via via) = lent ps via

-- what stands behind a mask that may be there
abbrev pub behind_mask : Option Token → List tokens.Token → List tokens.Token
behind_mask word ps = behind (spell mask (mask_view word)) ps

-- a mask that may be there, the first point, and then what the path goes on with
abbrev pub PathAt : {V : Type 0} → List tokens.Token → code_path.Path V → Type 0
PathAt ps p = MaskAt ps p.mask × WirePointAt (behind_mask p.mask ps) p.start × PartsAt (behind (spell wire_start (wire_point_view p.start)) (behind_mask p.mask ps)) p.items
