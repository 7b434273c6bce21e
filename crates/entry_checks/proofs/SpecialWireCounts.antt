-- Unchecked parts of special nets are no more than their words.
use Rattle.std.proofs.Common.{◌≤◌, List, [], ◌∷◌, ◌++◌, length, map, sum, arith, length-append}
use Rattle.std.specs.List.{list_any}
use Rattle.form_meanings.specs.Meaning.{spell_all}
use Rattle.form_meanings.specs.Words.{is_plus}
use Rattle.statement_model.specs.Form.{spell}
use Rattle.def_grammar.specs.Clauses.{mask}
use Rattle.def_grammar.specs.SpecialNets.{SpecialClause, special_subnet, special_use, special_shape_word, special_mask, special_rectangle, special_vias, special_polygon, special_has_wiring, special_kept, special_clause, special_listed, special_shape}
use Rattle.def_grammar.specs.Wiring as forms
use Rattle.def_grammar.specs.Wiring.{Path, WireVia, SpecialVia, Wire, SpecialWire, Wiring, SpecialWiring, WireMark, wire_shape, wire_style, wire_mask}
use Rattle.lefdef_tokens.specs.Views.{rest_of}
use Rattle.statement_reader.specs.declared.parts.Parts.{Parts}
use Rattle.wire_parts.specs.SpecialNetViews.{special_clauses_of}
use Rattle.wire_parts.specs.declared.special_nets.SpecialClause as code_special_nets
use Rattle.entry_rules.specs.Unchecked.{diagonals_of, is_listed, is_style, one_if, special_words, unchecked_in_special, unchecked_in_special_wire}
use Rattle.entry_rules.specs.WireItems.{special_via}
use Rattle.entry_references.proofs.PartCounts.{few_read, few_spelled, sum_cons}
use Rattle.entry_references.proofs.PathCounts.{few_in_path, one_at_most}

some_special_via : (v : SpecialVia) → 1 ≤ length (spell forms.special_via v)
unfolding forms.special_via forms.wire_via
some_special_via v = omega arith

few_in_special_path : (p : Path SpecialVia) → diagonals_of special_via p ≤ length (spell forms.special_path p)
unfolding forms.special_path forms.special_item
few_in_special_path p =
    let k = few_in_path forms.special_via some_special_via special_via p in
    let items = spell_all (spell (forms.path_item forms.special_via)) p.items in
    let start = spell forms.wire_start p.start in
    rw (length-append (spell mask p.mask) (start ++ items), length-append start items) (omega (arith, k))

few_in_marks : (ms : List WireMark) → one_if (list_any is_style ms) ≤ length (spell_all (spell forms.wire_mark) ms)
unfolding forms.wire_mark
few_in_marks [] = omega arith
few_in_marks (m ∷ ms) =
    let one = one_at_most (list_any is_style (m ∷ ms)) in
    rw (length-append (spell forms.wire_mark m) (spell_all (spell forms.wire_mark) ms)) (omega (arith, one))

few_in_special_wire : (w : SpecialWire) → unchecked_in_special_wire w ≤ length (spell forms.special_wire w)
unfolding forms.special_wire
few_in_special_wire w =
    let marks = spell_all (spell forms.wire_mark) w.marks in
    let path = spell forms.special_path w.path in
    let k = few_in_marks w.marks in
    let l = few_in_special_path w.path in
    rw (length-append marks path) (omega (arith, k, l))

few_in_new_special_wire : (w : SpecialWire) → unchecked_in_special_wire w ≤ length (spell forms.new_special_wire w)
unfolding forms.new_special_wire
few_in_new_special_wire w = let k = few_in_special_wire w in omega (arith, k)

few_in_special_wires : (ws : List SpecialWire) → sum (map unchecked_in_special_wire ws) ≤ length (spell forms.special_wires ws)
unfolding forms.special_wires
few_in_special_wires [] = omega arith
few_in_special_wires (w ∷ ws) =
    let first = spell forms.special_wire w in
    let others = spell_all (spell forms.new_special_wire) ws in
    let k = few_in_special_wire w in
    let l = few_spelled forms.new_special_wire unchecked_in_special_wire few_in_new_special_wire ws in
    rw (sum_cons unchecked_in_special_wire w ws, length-append first others) (omega (arith, k, l))

few_in_special_wiring : (w : SpecialWiring) → sum (map unchecked_in_special_wire w.wires) ≤ length (spell forms.special_wiring w)
unfolding forms.special_wiring
few_in_special_wiring w =
    let k = few_in_special_wires w.wires in
    rw (length-append _ (spell forms.special_wires w.wires)) (omega (arith, k))

few_in_special_clause : (c : SpecialClause) → unchecked_in_special c ≤ length (spell special_clause c)
unfolding special_clause special_listed special_shape
few_in_special_clause (special_subnet tokens) = omega arith
few_in_special_clause (special_use word) = omega arith
few_in_special_clause (special_shape_word word) = omega arith
few_in_special_clause (special_mask word) = omega arith
few_in_special_clause (special_rectangle layer corners) = omega arith
few_in_special_clause (special_vias via) = omega arith
few_in_special_clause (special_polygon layer polygon) = omega arith
few_in_special_clause (special_has_wiring w) = let k = few_in_special_wiring w in omega (arith, k)
few_in_special_clause (special_kept c) = let one = one_at_most (is_listed special_words c) in omega (arith, one)

pub few_in_special_clauses : (clauses : Parts code_special_nets.SpecialClause) → sum (map unchecked_in_special (special_clauses_of clauses)) ≤ length (rest_of clauses.cursor).words
few_in_special_clauses clauses = few_read special_clause unchecked_in_special few_in_special_clause is_plus clauses.most (rest_of clauses.cursor)
