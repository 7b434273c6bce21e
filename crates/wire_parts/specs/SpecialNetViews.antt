-- Entries of SPECIALNETS of the program as those of the definitions, and which tokens they are.
use Rattle.std.specs.Prelude.{List, codes}
use Rattle.form_meanings.specs.Words.{is_plain, is_plus}
use Rattle.form_meanings.specs.Meaning.{items, spell_all}
use Rattle.statement_model.specs.Form.{Form, left, on, read, right, spell, word}
use Rattle.statement_model.specs.Tokens.{Token}
use Rattle.def_grammar.specs.SpecialNets.{PlacedVia, SpecialShape, SpecialListed, SpecialClause, special_subnet, special_use, special_shape_word, special_mask, special_rectangle, special_vias, special_polygon, special_has_wiring, special_kept, special_shape, special_clause, SpecialNet}
use Rattle.def_grammar.specs.Terminals.{terminal}
use Rattle.def_grammar.specs.Wiring.{wire_via}
use Rattle.lefdef_tokens.specs.Places.{RunAt, StandsAt, behind, past}
use Rattle.lefdef_tokens.specs.Views.{rest_of, words_of}
use Rattle.statement_reader.specs.declared.parts.Parts.{Parts}
use Rattle.def_parts.specs.ClauseViews.{KeptAt, kept_view}
use Rattle.def_parts.specs.PointViews.{CornersAt, PointAt, PolygonAt, corners_view, later_points, point_view, polygon_view}
use Rattle.statement_reader.specs.PartViews.{PartsAt}
use Rattle.wire_parts.specs.PathViews.{WireViaAt, wire_via_view}
use Rattle.wire_parts.specs.TerminalViews.{terminals_of}
use Rattle.wire_parts.specs.WiringViews.{SpecialWiringAt, special_wiring_view}
use Rattle.wire_parts.specs.declared.special_nets.PlacedVia as code_via
use Rattle.wire_parts.specs.declared.special_nets.SpecialClause as code_clause
use Rattle.wire_parts.specs.declared.special_nets.SpecialClause.TheVariants as clauses
use Rattle.wire_parts.specs.declared.special_nets.SpecialNetParts as code_net

abbrev pub placed_via_view : code_via.PlacedVia → PlacedVia
placed_via_view v = record { via = wire_via_view v.via; first = point_view v.first; others = later_points v.others }

-- one that has its form, as a clause
abbrev pub of_listed : Form SpecialListed → Form SpecialClause
of_listed f = right (left f)

-- a shape or a path, as a clause
abbrev pub of_shape : Form SpecialShape → Form SpecialClause
of_shape f = of_listed (right (right (right f)))

-- a clause that has its form, whatever stands behind it
abbrev pub special_by_word : Form SpecialListed
special_by_word = on (codes "USE") (word is_plain) (on (codes "SHAPE") (word is_plain) (on (codes "MASK") (word is_plain) special_shape))

abbrev pub special_clause_view : code_clause.SpecialClause → SpecialClause
special_clause_view (clauses.Subnet tokens) = special_subnet (words_of tokens)
special_clause_view (clauses.Use word) = special_use word.bytes.now
special_clause_view (clauses.Shape word) = special_shape_word word.bytes.now
special_clause_view (clauses.Mask word) = special_mask word.bytes.now
special_clause_view (clauses.Rectangle layer corners) = special_rectangle layer.bytes.now (corners_view corners)
special_clause_view (clauses.Vias via) = special_vias (placed_via_view via)
special_clause_view (clauses.Polygon layer polygon) = special_polygon layer.bytes.now (polygon_view polygon)
special_clause_view (clauses.Wiring wiring) = special_has_wiring (special_wiring_view wiring)
special_clause_view (clauses.Other clause) = special_kept (kept_view clause)

-- the clauses that are left
abbrev pub special_clauses_of : Parts code_clause.SpecialClause → List SpecialClause
special_clauses_of parts = items parts.most is_plus (read special_clause) (rest_of parts.cursor)

abbrev pub special_net_view : code_net.SpecialNetParts → SpecialNet
special_net_view n = record { name = n.name.bytes.now; terminals = terminals_of n.terminals; clauses = special_clauses_of n.clauses }

abbrev pub PlacedViaAt : List Token → code_via.PlacedVia → Type 0
PlacedViaAt ps v =
    let points = behind (spell wire_via (wire_via_view v.via)) ps in
    WireViaAt ps v.via × PointAt points v.first × PartsAt (past 4 points) v.others

-- from the clause's word on
abbrev pub SpecialClauseAt : List Token → code_clause.SpecialClause → Type 0
SpecialClauseAt ps (clauses.Subnet tokens) = RunAt (past 1 ps) tokens
SpecialClauseAt ps (clauses.Use word) = StandsAt (past 1 ps) word
SpecialClauseAt ps (clauses.Shape word) = StandsAt (past 1 ps) word
SpecialClauseAt ps (clauses.Mask word) = StandsAt (past 1 ps) word
SpecialClauseAt ps (clauses.Rectangle layer corners) = StandsAt (past 1 ps) layer × CornersAt (past 2 ps) corners
SpecialClauseAt ps (clauses.Vias via) = PlacedViaAt (past 1 ps) via
SpecialClauseAt ps (clauses.Polygon layer polygon) = StandsAt (past 1 ps) layer × PolygonAt (past 2 ps) polygon
SpecialClauseAt ps (clauses.Wiring wiring) = SpecialWiringAt ps wiring
SpecialClauseAt ps (clauses.Other clause) = KeptAt ps clause

-- of these tokens, the second is the name, behind it come the terminals, and behind these the clauses
abbrev pub SpecialNetAt : List Token → code_net.SpecialNetParts → Type 0
SpecialNetAt ps n = StandsAt (past 1 ps) n.name × PartsAt (past 2 ps) n.terminals × PartsAt (behind (spell_all (spell terminal) (terminals_of n.terminals)) (past 2 ps)) n.clauses
