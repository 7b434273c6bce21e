-- Lines on parts whose shape isn't checked (own): polygons, diagonal segments, wires with a style, an entry's SUBNET, and clauses
-- and blockages that are kept for want of their form.
use Rattle.std.specs.Prelude.{ℕ, zero, suc, ◌+◌, Bool, true, false, not, ◌&&◌, List, [], ◌∷◌, ◌++◌, length, filter, map, sum, flat_map, pos, codes, if◌then◌else◌, Option, Some, None}
use Rattle.std.specs.List.{list_any}
use Rattle.std.specs.Str.{bytes_eq}
use Rattle.design_model.specs.declared.diagnostic.DiagKind.TheVariants.{Unchecked}
use Rattle.design_model.specs.declared.geometry.Point.{Point}
use Rattle.design_model.specs.EnumWords.{section_word}
use Rattle.design_model.specs.Lines.{line_text}
use Rattle.lef_grammar.specs.Library.{Library, Macro, Via, unchecked_of}
use Rattle.def_grammar.specs.Parts.{is_some}
use Rattle.def_grammar.specs.Clauses.{KeptClause}
use Rattle.def_grammar.specs.Pins.{Pin, PinClause, pin_has_polygon}
use Rattle.def_grammar.specs.Blockages.{BlockageShape, BlockageEntry, blocked_polygon, blocks, blockage_kept}
use Rattle.def_grammar.specs.DefVias.{DefVia, ViaClause, via_has_polygon}
use Rattle.def_grammar.specs.DieArea.{DieArea}
use Rattle.def_grammar.specs.Nets.{Net, NetEntry, NetClause, net_subnet, net_wiring, net_kept, must_join, is_net}
use Rattle.def_grammar.specs.SpecialNets.{SpecialNet, SpecialClause, special_subnet, special_polygon, special_has_wiring, special_kept}
use Rattle.def_grammar.specs.Wiring.{Path, Wire, SpecialWire, WireMark, wire_style}
use Rattle.def_grammar.specs.Top.{die_area}
use Rattle.def_grammar.specs.Records as records
use Rattle.def_grammar.specs.Records.{Record, Entry, top, entry, section_of, name_of}
use Rattle.wire_rules.specs.Paths.{PathItem, ViaUse, to_point, jump_to, same_z}
use Rattle.entry_rules.specs.Unknown.{name_or_dash}
use Rattle.entry_rules.specs.WireItems.{items_of, start_of, net_via, special_via}

-- a segment that lies neither in x nor in y
abbrev pub is_diagonal : Point → Point → Bool
is_diagonal a b = not (same_z a.x b.x) && not (same_z a.y b.y)

abbrev pub one_if : Bool → ℕ
one_if b = if b then 1 else 0

-- how many segments of a path after a point are diagonal
unfoldable pub diagonals : Point → List PathItem → ℕ
diagonals at [] = 0
diagonals at (to_point to past ∷ items) = one_if (is_diagonal at to) + diagonals to items
diagonals at (jump_to to ∷ items) = diagonals to items
diagonals at (i ∷ items) = diagonals at items

abbrev pub diagonals_of : {V : Type 0} → (V → ViaUse) → Path V → ℕ
diagonals_of use_of p = diagonals (start_of use_of p) (items_of use_of p)

-- a wire: its diagonal segments, and its style
abbrev pub unchecked_in_wire : Wire → ℕ
unchecked_in_wire w = one_if (is_some w.style) + diagonals_of net_via w.path

abbrev pub is_style : WireMark → Bool
is_style (wire_style n) = true
is_style _ = false

abbrev pub unchecked_in_special_wire : SpecialWire → ℕ
unchecked_in_special_wire w = one_if (list_any is_style w.marks) + diagonals_of special_via w.path

-- a clause that is kept for want of its form begins with one of the words whose clauses have one
abbrev pub is_listed : List (List ℕ) → KeptClause → Bool
is_listed words c = list_any (bytes_eq c.keyword) words

abbrev pub net_words : List (List ℕ)
net_words = codes "USE" ∷ codes "NONDEFAULTRULE" ∷ codes "ROUTED" ∷ codes "FIXED" ∷ codes "COVER" ∷ codes "NOSHIELD" ∷ []

abbrev pub special_words : List (List ℕ)
special_words =
    codes "USE" ∷ codes "ROUTED" ∷ codes "FIXED" ∷ codes "COVER" ∷ codes "SHIELD" ∷ codes "RECT" ∷ codes "VIA" ∷ codes "POLYGON" ∷ codes "SHAPE" ∷ codes "MASK" ∷ []

abbrev pub unchecked_in_clause : NetClause → ℕ
unchecked_in_clause (net_subnet tokens) = 1
unchecked_in_clause (net_wiring w) = sum (map unchecked_in_wire (w.first ∷ w.others))
unchecked_in_clause (net_kept c) = one_if (is_listed net_words c)
unchecked_in_clause _ = 0

abbrev pub unchecked_in_special : SpecialClause → ℕ
unchecked_in_special (special_subnet tokens) = 1
unchecked_in_special (special_polygon layer polygon) = 1
unchecked_in_special (special_has_wiring w) = sum (map unchecked_in_special_wire w.wires)
unchecked_in_special (special_kept c) = one_if (is_listed special_words c)
unchecked_in_special _ = 0

abbrev pub is_polygon_of_pin : PinClause → Bool
is_polygon_of_pin (pin_has_polygon layer rest) = true
is_polygon_of_pin _ = false

abbrev pub is_blocked_polygon : BlockageShape → Bool
is_blocked_polygon (blocked_polygon p) = true
is_blocked_polygon _ = false

abbrev pub is_polygon_of_via : ViaClause → Bool
is_polygon_of_via (via_has_polygon p) = true
is_polygon_of_via _ = false

-- how many parts of an entry have no checked shape
abbrev pub unchecked_in : Entry → ℕ
unchecked_in (records.pin p) = length (filter is_polygon_of_pin p.clauses)
unchecked_in (records.blockage (blocks b)) = length (filter is_blocked_polygon (b.first ∷ b.others))
unchecked_in (records.blockage (blockage_kept tokens)) = 1
unchecked_in (records.via v) = length (filter is_polygon_of_via v.clauses)
unchecked_in (records.net (is_net n)) = sum (map unchecked_in_clause n.clauses)
unchecked_in (records.special_net n) = sum (map unchecked_in_special n.clauses)
unchecked_in _ = 0

-- `unchecked S o k`, for k above 0
abbrev pub unchecked_line : List ℕ → List ℕ → ℕ → List (List ℕ)
unchecked_line section owner zero = []
unchecked_line section owner (suc k) = line_text Unchecked (section ∷ owner ∷ []) (pos (suc k) ∷ []) ∷ []

abbrev pub is_more : {A : Type 0} → List A → Bool
is_more [] = false
is_more (a ∷ all) = true

-- the lines of an entry; a die area of more than two points counts as one part
abbrev pub unchecked_lines_of : Record → List (List ℕ)
unchecked_lines_of (entry e) = unchecked_line (section_word (section_of e)) (name_or_dash (name_of e)) (unchecked_in e)
unchecked_lines_of (top (die_area a)) = unchecked_line (codes "DIEAREA") (codes "-") (one_if (is_more a.others))
unchecked_lines_of _ = []

-- those of a library
abbrev pub unchecked_in_library : Library → List (List ℕ)
unchecked_in_library library =
    flat_map (λ (m : Macro). unchecked_line (codes "MACRO") m.name (unchecked_of m)) library.macros
    ++ flat_map (λ (v : Via). unchecked_line (codes "VIA") v.name v.unchecked) library.vias

-- all lines on unchecked parts
abbrev pub unchecked_lines : Library → List Record → List (List ℕ)
unchecked_lines library design = flat_map unchecked_lines_of design ++ unchecked_in_library library
