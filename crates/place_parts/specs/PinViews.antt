-- Entries of PINS of the program as those of the definitions, and which tokens they are.
use Rattle.std.specs.Prelude.{List}
use Rattle.form_meanings.specs.Words.{is_plus}
use Rattle.form_meanings.specs.Meaning.{items}
use Rattle.statement_model.specs.Form.{read, spell}
use Rattle.statement_model.specs.Tokens.{Token}
use Rattle.def_grammar.specs.Clauses.{mask}
use Rattle.def_grammar.specs.Pins.{Clearance, clearance, Pin, PinClause, PinRectangle, PinVia, design_rule_width, no_clearance, pin_clause, pin_has_polygon, pin_has_rectangle, pin_has_via, pin_kept, pin_net, pin_placed, pin_port, spacing}
use Rattle.lefdef_tokens.specs.Places.{RunAt, StandsAt, behind, past}
use Rattle.lefdef_tokens.specs.Views.{rest_of, words_of}
use Rattle.statement_reader.specs.PartViews.{PartsAt}
use Rattle.statement_reader.specs.declared.parts.Parts.{Parts}
use Rattle.def_parts.specs.ClauseViews.{KeptAt, MaskAt, kept_view, mask_view}
use Rattle.def_parts.specs.PointViews.{CornersAt, PointAt, corners_view, point_view}
use Rattle.place_parts.specs.declared.pins.Clearance as code_clearance
use Rattle.place_parts.specs.declared.pins.Clearance.TheVariants as clearances
use Rattle.place_parts.specs.declared.pins.PinClause as code
use Rattle.place_parts.specs.declared.pins.PinClause.TheVariants as clauses
use Rattle.place_parts.specs.declared.pins.PinParts.{PinParts}
use Rattle.place_parts.specs.declared.pins.PinRectangle as code_rectangle
use Rattle.place_parts.specs.declared.pins.PinVia as code_via

abbrev pub clearance_view : code_clearance.Clearance → Clearance
clearance_view (clearances.Spacing n) = spacing n.bytes.now
clearance_view (clearances.DesignRuleWidth n) = design_rule_width n.bytes.now
clearance_view clearances.Default = no_clearance

abbrev pub pin_rectangle_view : code_rectangle.PinRectangle → PinRectangle
pin_rectangle_view s = record { layer = s.layer.bytes.now; mask = mask_view s.mask; clearance = clearance_view s.clearance; corners = corners_view s.corners }

abbrev pub pin_via_view : code_via.PinVia → PinVia
pin_via_view v = record { name = v.name.bytes.now; mask = mask_view v.mask; at = point_view v.at }

abbrev pub pin_clause_view : code.PinClause → PinClause
pin_clause_view (clauses.Placed p) = pin_placed p.status (point_view p.at) p.orient
pin_clause_view (clauses.Net name) = pin_net name.bytes.now
pin_clause_view clauses.Port = pin_port
pin_clause_view (clauses.Rectangle s) = pin_has_rectangle (pin_rectangle_view s)
pin_clause_view (clauses.Via v) = pin_has_via (pin_via_view v)
pin_clause_view (clauses.Polygon layer rest) = pin_has_polygon layer.bytes.now (words_of rest)
pin_clause_view (clauses.Kept kept) = pin_kept (kept_view kept)

-- the clauses that are left
abbrev pub pin_clauses_of : Parts code.PinClause → List PinClause
pin_clauses_of parts = items parts.most is_plus (read pin_clause) (rest_of parts.cursor)

abbrev pub pin_view : PinParts → Pin
pin_view p = record { name = p.name.bytes.now; clauses = pin_clauses_of p.clauses }

-- the number behind SPACING or DESIGNRULEWIDTH
abbrev pub ClearanceAt : List Token → code_clearance.Clearance → Type 0
ClearanceAt ps (clearances.Spacing n) = StandsAt (past 1 ps) n
ClearanceAt ps (clearances.DesignRuleWidth n) = StandsAt (past 1 ps) n
ClearanceAt ps clearances.Default = Unit {0}

-- what comes after a rectangle's mask, and after what it says of its distance
abbrev pub past_mask : code_rectangle.PinRectangle → List Token → List Token
past_mask s ps = behind (spell mask (mask_view s.mask)) ps

abbrev pub past_clearance : code_rectangle.PinRectangle → List Token → List Token
past_clearance s ps = behind (spell clearance (clearance_view s.clearance)) (past_mask s ps)

-- of these tokens, the first is the layer of a rectangle
abbrev pub PinRectangleAt : List Token → code_rectangle.PinRectangle → Type 0
PinRectangleAt ps s = StandsAt ps s.layer × MaskAt (past 1 ps) s.mask × ClearanceAt (past_mask s (past 1 ps)) s.clearance × CornersAt (past_clearance s (past 1 ps)) s.corners

-- of these tokens, the first is the name of a via
abbrev pub PinViaAt : List Token → code_via.PinVia → Type 0
PinViaAt ps v = StandsAt ps v.name × MaskAt (past 1 ps) v.mask × PointAt (behind (spell mask (mask_view v.mask)) (past 1 ps)) v.at

-- a clause without its + begins with the first of these tokens
abbrev pub PinBodyAt : List Token → code.PinClause → Type 0
PinBodyAt ps (clauses.Placed p) = PointAt (past 1 ps) p.at
PinBodyAt ps (clauses.Net name) = StandsAt (past 1 ps) name
PinBodyAt ps clauses.Port = Unit {0}
PinBodyAt ps (clauses.Rectangle s) = PinRectangleAt (past 1 ps) s
PinBodyAt ps (clauses.Via v) = PinViaAt (past 1 ps) v
PinBodyAt ps (clauses.Polygon layer rest) = StandsAt (past 1 ps) layer × RunAt (past 2 ps) rest
PinBodyAt ps (clauses.Kept kept) = KeptAt ps kept

-- of these tokens, the first is a clause's +
abbrev pub PinClauseAt : List Token → code.PinClause → Type 0
PinClauseAt ps c = PinBodyAt (past 1 ps) c

-- of these tokens, the first is an entry's -, and the second its name
abbrev pub PinAt : List Token → PinParts → Type 0
PinAt ps p = StandsAt (past 1 ps) p.name × PartsAt (past 2 ps) p.clauses
