-- Polygons among the clauses of pins and vias, and among blocked shapes, are no more than the words that are left.
use Rattle.std.proofs.Common.{◌≤◌, filter, length, arith}
use Rattle.form_meanings.specs.Words.{is_plus}
use Rattle.statement_model.specs.Form.{spell}
use Rattle.def_grammar.specs.Pins as pins
use Rattle.def_grammar.specs.Pins.{pin_clause}
use Rattle.def_grammar.specs.Blockages as blockages
use Rattle.def_grammar.specs.Blockages.{blockage_shape, blocked_rectangle, blocked_polygon, is_shape}
use Rattle.def_grammar.specs.DefVias as vias
use Rattle.def_grammar.specs.DefVias.{via_clause}
use Rattle.lefdef_tokens.specs.Views.{rest_of}
use Rattle.statement_reader.specs.declared.parts.Parts.{Parts}
use Rattle.place_parts.specs.BlockageViews.{blockage_shapes_of}
use Rattle.place_parts.specs.PinViews.{pin_clauses_of}
use Rattle.place_parts.specs.declared.blockages.BlockageShape.{BlockageShape}
use Rattle.place_parts.specs.declared.pins.PinClause.{PinClause}
use Rattle.via_parts.specs.ViaViews.{via_clauses_of}
use Rattle.via_parts.specs.declared.vias.ViaClause.{ViaClause}
use Rattle.entry_rules.specs.Unchecked.{is_blocked_polygon, is_polygon_of_pin, is_polygon_of_via}
use Rattle.entry_references.proofs.PartCounts.{few_passing_read}

some_pin_clause : (c : pins.PinClause) → 1 ≤ length (spell pin_clause c)
unfolding pin_clause
some_pin_clause c = omega arith

some_via_clause : (c : vias.ViaClause) → 1 ≤ length (spell via_clause c)
unfolding via_clause
some_via_clause c = omega arith

some_shape : (s : blockages.BlockageShape) → 1 ≤ length (spell blockage_shape s)
unfolding blockage_shape
some_shape (blocked_rectangle corners) = omega arith
some_shape (blocked_polygon polygon) = omega arith

pub few_of_pin : (clauses : Parts PinClause) → length (filter is_polygon_of_pin (pin_clauses_of clauses)) ≤ length (rest_of clauses.cursor).words
few_of_pin clauses = few_passing_read pin_clause some_pin_clause is_polygon_of_pin is_plus clauses.most (rest_of clauses.cursor)

pub few_of_via : (clauses : Parts ViaClause) → length (filter is_polygon_of_via (via_clauses_of clauses)) ≤ length (rest_of clauses.cursor).words
few_of_via clauses = few_passing_read via_clause some_via_clause is_polygon_of_via is_plus clauses.most (rest_of clauses.cursor)

pub few_blocked : (shapes : Parts BlockageShape) → length (filter is_blocked_polygon (blockage_shapes_of shapes)) ≤ length (rest_of shapes.cursor).words
few_blocked shapes = few_passing_read blockage_shape some_shape is_blocked_polygon is_shape shapes.most (rest_of shapes.cursor)
