-- Wiring of the program as that of the definitions, and which tokens it is.
use Rattle.std.specs.Prelude.{List, Option, codes, IfSome}
use Rattle.std.specs.Option.{option_map}
use Rattle.form_meanings.specs.Words.{is_plus}
use Rattle.form_meanings.specs.Meaning.{items, spell_all}
use Rattle.statement_model.specs.Form.{empty, on, opt_on, read, spell}
use Rattle.statement_model.specs.Tokens.{Token}
use Rattle.def_grammar.specs.Clauses.{list_of}
use Rattle.def_grammar.specs.Parts.{int, name}
use Rattle.def_grammar.specs.Wiring.{WiringStatus, routed, fixed, cover, Taper, tapered, tapered_by, not_tapered, Wire, WireMark, wire_shape, wire_style, wire_mask, wire_mark, SpecialWire, is_new, new_wire, new_special_wire, WiringKind, noshield, wired, Wiring, SpecialWiringKind, shields, special_wired, SpecialWiring, taper, wire, special_wire, wiring_status}
use Rattle.lefdef_tokens.specs.Places.{StandsAt, behind, past}
use Rattle.lefdef_tokens.specs.Views.{rest_of}
use Rattle.statement_reader.specs.declared.parts.Parts.{Parts}
use Rattle.def_parts.specs.ClauseViews.{MaskAt, mask_view}
use Rattle.statement_reader.specs.PartViews.{PartsAt}
use Rattle.wire_parts.specs.PathViews.{PathAt, net_path_view, special_path_view}
use Rattle.wire_parts.specs.declared.wiring.WiringStatus as code_status
use Rattle.wire_parts.specs.declared.wiring.WiringStatus.TheVariants as statuses
use Rattle.wire_parts.specs.declared.wiring.Taper as code_taper
use Rattle.wire_parts.specs.declared.wiring.Taper.TheVariants as tapers
use Rattle.wire_parts.specs.declared.wiring.Wire as code_wire
use Rattle.wire_parts.specs.declared.wiring.WireMark as code_mark
use Rattle.wire_parts.specs.declared.wiring.WireMark.TheVariants as marks
use Rattle.wire_parts.specs.declared.wiring.SpecialWire as code_special
use Rattle.wire_parts.specs.declared.wiring.WiringKind as code_kind
use Rattle.wire_parts.specs.declared.wiring.WiringKind.TheVariants as kinds
use Rattle.wire_parts.specs.declared.wiring.Wiring as code_wiring
use Rattle.wire_parts.specs.declared.wiring.SpecialWiringKind as code_special_kind
use Rattle.wire_parts.specs.declared.wiring.SpecialWiringKind.TheVariants as special_kinds
use Rattle.wire_parts.specs.declared.wiring.SpecialWires as code_wires
use Rattle.wire_parts.specs.declared.wiring.SpecialWiring as code_special_wiring

abbrev pub status_view : code_status.WiringStatus → WiringStatus
status_view statuses.Routed = routed
status_view statuses.Fixed = fixed
status_view statuses.Cover = cover

abbrev pub taper_view : code_taper.Taper → Taper
taper_view tapers.Layer = tapered
taper_view (tapers.Rule rule) = tapered_by rule.bytes.now
taper_view tapers.Net = not_tapered

abbrev pub wire_view : code_wire.Wire → Wire
wire_view w = record { layer = w.layer.bytes.now; taper = taper_view w.taper; style = mask_view w.style; path = net_path_view w.path }

abbrev pub mark_view : code_mark.WireMark → WireMark
mark_view (marks.Shape word) = wire_shape word.bytes.now
mark_view (marks.Style number) = wire_style number.bytes.now
mark_view (marks.Mask word) = wire_mask word.bytes.now

-- the marks that are left of a special wire
abbrev pub marks_of : Parts code_mark.WireMark → List WireMark
marks_of parts = items parts.most is_plus (read wire_mark) (rest_of parts.cursor)

abbrev pub special_wire_view : code_special.SpecialWire → SpecialWire
special_wire_view w = record { layer = w.layer.bytes.now; width = w.width.bytes.now; marks = marks_of w.marks; path = special_path_view w.path }

-- the wires that are left of a wiring clause
abbrev pub wires_of : Parts code_wire.Wire → List Wire
wires_of parts = items parts.most is_new (read new_wire) (rest_of parts.cursor)

abbrev pub special_wires_of : Parts code_special.SpecialWire → List SpecialWire
special_wires_of parts = items parts.most is_new (read new_special_wire) (rest_of parts.cursor)

abbrev pub kind_view : code_kind.WiringKind → WiringKind
kind_view kinds.NoShield = noshield
kind_view (kinds.Wired status) = wired (status_view status)

abbrev pub wiring_view : code_wiring.Wiring → Wiring
wiring_view w = record { kind = kind_view w.kind; first = wire_view w.first; others = wires_of w.others }

abbrev pub special_kind_view : code_special_kind.SpecialWiringKind → SpecialWiringKind
special_kind_view (special_kinds.Shield net) = shields net.bytes.now
special_kind_view (special_kinds.Wired status) = special_wired (status_view status)

abbrev pub first_and_others : code_wires.SpecialWires → SpecialWire × List SpecialWire
first_and_others w = (special_wire_view w.first, special_wires_of w.others)

abbrev pub wires_view : Option code_wires.SpecialWires → List SpecialWire
wires_view wires = list_of (option_map first_and_others wires)

abbrev pub special_wiring_view : code_special_wiring.SpecialWiring → SpecialWiring
special_wiring_view w = record { kind = special_kind_view w.kind; wires = wires_view w.wires }

abbrev pub TaperAt : List Token → code_taper.Taper → Type 0
TaperAt ps tapers.Layer = Unit {0}
TaperAt ps (tapers.Rule rule) = StandsAt (past 1 ps) rule
TaperAt ps tapers.Net = Unit {0}

-- what stands behind the layer of a wire and its taper, and behind its style
abbrev pub behind_taper : code_wire.Wire → List Token → List Token
behind_taper w ps = behind (spell taper (taper_view w.taper)) (past 1 ps)

abbrev pub behind_style : code_wire.Wire → List Token → List Token
behind_style w ps = behind (spell (opt_on (codes "STYLE") int) (mask_view w.style)) (behind_taper w ps)

-- of these tokens, the first is the layer
abbrev pub WireAt : List Token → code_wire.Wire → Type 0
WireAt ps w = StandsAt ps w.layer × TaperAt (past 1 ps) w.taper × MaskAt (behind_taper w ps) w.style × PathAt (behind_style w ps) w.path

-- the word or the number behind the mark's word
abbrev pub MarkAt : List Token → code_mark.WireMark → Type 0
MarkAt ps (marks.Shape word) = StandsAt (past 1 ps) word
MarkAt ps (marks.Style number) = StandsAt (past 1 ps) number
MarkAt ps (marks.Mask word) = StandsAt (past 1 ps) word

-- of these tokens, the first is the layer, the second the width, and then come marks and the path
abbrev pub SpecialWireAt : List Token → code_special.SpecialWire → Type 0
SpecialWireAt ps w = StandsAt ps w.layer × StandsAt (past 1 ps) w.width × PartsAt (past 2 ps) w.marks × PathAt (behind (spell_all (spell wire_mark) (marks_of w.marks)) (past 2 ps)) w.path

-- behind the clause's word
abbrev pub behind_word : code_kind.WiringKind → List Token → List Token
behind_word kind ps = behind (spell (on (codes "NOSHIELD") empty wiring_status) (kind_view kind)) ps

abbrev pub WiringAt : List Token → code_wiring.Wiring → Type 0
WiringAt ps w = WireAt (behind_word w.kind ps) w.first × PartsAt (behind (spell wire (wire_view w.first)) (behind_word w.kind ps)) w.others

abbrev pub SpecialKindAt : List Token → code_special_kind.SpecialWiringKind → Type 0
SpecialKindAt ps (special_kinds.Shield net) = StandsAt (past 1 ps) net
SpecialKindAt ps (special_kinds.Wired status) = Unit {0}

abbrev pub SpecialWiresAt : List Token → code_wires.SpecialWires → Type 0
SpecialWiresAt ps w = SpecialWireAt ps w.first × PartsAt (behind (spell special_wire (special_wire_view w.first)) ps) w.others

-- behind the clause's word, and the net that it shields
abbrev pub behind_kind : code_special_kind.SpecialWiringKind → List Token → List Token
behind_kind kind ps = behind (spell (on (codes "SHIELD") name wiring_status) (special_kind_view kind)) ps

abbrev pub SpecialWiringAt : List Token → code_special_wiring.SpecialWiring → Type 0
SpecialWiringAt ps w = SpecialKindAt ps w.kind × IfSome w.wires (λ x. SpecialWiresAt (behind_kind w.kind ps) x)
