-- Unchecked parts of nets are no more than their words.
use Rattle.std.proofs.Common.{◌≤◌, ℕ, List, ◌++◌, length, map, sum, codes, arith, length-append, Option, Some, None}
use Rattle.form_meanings.specs.Meaning.{spell_all}
use Rattle.form_meanings.specs.Words.{is_plus}
use Rattle.statement_model.specs.Form.{spell, opt_on}
use Rattle.def_grammar.specs.Clauses.{mask}
use Rattle.def_grammar.specs.Parts.{int, is_some}
use Rattle.def_grammar.specs.Nets.{NetClause, net_subnet, net_use, net_rule, net_wiring, net_kept, net_clause, net_listed}
use Rattle.def_grammar.specs.Wiring as forms
use Rattle.def_grammar.specs.Wiring.{Path, WireVia, SpecialVia, Wire, SpecialWire, Wiring, SpecialWiring, WireMark, wire_shape, wire_style, wire_mask}
use Rattle.lefdef_tokens.specs.Views.{rest_of}
use Rattle.statement_reader.specs.declared.parts.Parts.{Parts}
use Rattle.wire_parts.specs.NetViews.{net_clauses_of}
use Rattle.wire_parts.specs.declared.nets.NetClause as code_nets
use Rattle.entry_rules.specs.Unchecked.{diagonals_of, is_listed, net_words, one_if, unchecked_in_clause, unchecked_in_wire}
use Rattle.entry_rules.specs.WireItems.{net_via}
use Rattle.entry_references.proofs.PartCounts.{few_read, few_spelled, sum_cons}
use Rattle.entry_references.proofs.PathCounts.{few_in_path, one_at_most}

some_wire_via : (v : WireVia) → 1 ≤ length (spell forms.wire_via v)
unfolding forms.wire_via
some_wire_via v = omega arith

few_in_net_path : (p : Path WireVia) → diagonals_of net_via p ≤ length (spell forms.net_path p)
unfolding forms.net_path forms.net_item
few_in_net_path p =
    let k = few_in_path forms.wire_via some_wire_via net_via p in
    let items = spell_all (spell (forms.path_item forms.wire_via)) p.items in
    let start = spell forms.wire_start p.start in
    rw (length-append (spell mask p.mask) (start ++ items), length-append start items) (omega (arith, k))

few_in_style : (s : Option (List ℕ)) → one_if (is_some s) ≤ length (spell (opt_on (codes "STYLE") int) s)
few_in_style None = omega arith
few_in_style (Some n) = omega arith

few_in_wire : (w : Wire) → unchecked_in_wire w ≤ length (spell forms.wire w)
unfolding forms.wire
few_in_wire w =
    let style = spell (opt_on (codes "STYLE") int) w.style in
    let path = spell forms.net_path w.path in
    let taper = spell forms.taper w.taper in
    let k = few_in_style w.style in
    let l = few_in_net_path w.path in
    rw (length-append taper (style ++ path), length-append style path) (omega (arith, k, l))

few_in_new_wire : (w : Wire) → unchecked_in_wire w ≤ length (spell forms.new_wire w)
unfolding forms.new_wire
few_in_new_wire w = let k = few_in_wire w in omega (arith, k)

few_in_wiring : (w : Wiring) → unchecked_in_clause (net_wiring w) ≤ length (spell forms.wiring w)
unfolding forms.wiring
few_in_wiring w =
    let first = spell forms.wire w.first in
    let others = spell_all (spell forms.new_wire) w.others in
    let k = few_in_wire w.first in
    let l = few_spelled forms.new_wire unchecked_in_wire few_in_new_wire w.others in
    rw (sum_cons unchecked_in_wire w.first w.others, length-append _ (first ++ others), length-append first others) (omega (arith, k, l))

few_in_clause : (c : NetClause) → unchecked_in_clause c ≤ length (spell net_clause c)
unfolding net_clause net_listed
few_in_clause (net_subnet tokens) = omega arith
few_in_clause (net_use word) = omega arith
few_in_clause (net_rule name) = omega arith
few_in_clause (net_wiring w) = let k = few_in_wiring w in omega (arith, k)
few_in_clause (net_kept c) = let one = one_at_most (is_listed net_words c) in omega (arith, one)

-- of the clauses that are left of an entry
pub few_in_clauses : (clauses : Parts code_nets.NetClause) → sum (map unchecked_in_clause (net_clauses_of clauses)) ≤ length (rest_of clauses.cursor).words
few_in_clauses clauses = few_read net_clause unchecked_in_clause few_in_clause is_plus clauses.most (rest_of clauses.cursor)
