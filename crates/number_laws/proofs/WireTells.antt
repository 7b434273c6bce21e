-- The entries of the sections about wires: what they tell of their numbers.
use Rattle.std.proofs.Common.{◌≡◌, ℕ, List, [], ◌∷◌, Option, Some, None, codes, refl}
use Rattle.std.specs.List.{All}
use Rattle.std.proofs.lemmas.List.Elements.{All-nil, All-cons, All-head, All-tail}
use Rattle.form_meanings.specs.Words.{is_place, is_plain, is_plus}
use Rattle.statement_model.specs.Form.{Form, empty, ◌⨟◌, many, on}
use Rattle.def_grammar.specs.Clauses.{as_list, as_flag}
use Rattle.def_grammar.specs.DefVias.{plus_mask, as_via_rectangle, via_rectangle, via_has_rectangle, via_has_polygon, via_rule, cut_size, on_layers, cut_spacing, enclosure, row_col, via_origin, via_offset, via_kept, via_polygon, as_by_layer, by_layer, as_cut_array, cut_array, two_sizes, as_via_layers, via_layers, ViaClause, via_array_clause, generated_clause, via_clause, as_def_via, def_via_form}
use Rattle.def_grammar.specs.Limits.{is_size}
use Rattle.def_grammar.specs.Numbers.{is_int}
use Rattle.def_grammar.specs.Terminals.{synthesized, as_terminal, terminal}
use Rattle.def_grammar.specs.Nets.{NetClause, net_subnet, net_use, net_rule, net_wiring, net_kept, net_listed, net_clause, as_net, net, NetEntry, must_join, is_net, net_form}
use Rattle.def_grammar.specs.Parts.{Coordinates, as_point, name}
use Rattle.def_grammar.specs.Points.{is_open, points, as_corners, corners, polygon}
use Rattle.def_grammar.specs.Rules.{as_rule_layer, rule_layer, RuleClause, rule_has_layer, rule_kept, rule_clause, as_rule, rule_form}
use Rattle.def_grammar.specs.SpecialNets.{as_placed_via, placed_via, SpecialClause, special_subnet, special_use, special_shape_word, special_mask, special_rectangle, special_vias, special_polygon, special_has_wiring, special_kept, special_shape, special_listed, special_clause, as_special_net, special_net_form}
use Rattle.def_grammar.specs.Wiring.{wiring_word, wiring_statuses, as_wire_point, wire_start, wire_point, wire_rectangle, as_wire_via, wire_via, as_via_array, array_size, via_array, as_special_via, special_via, PathItem, path_mask, path_virtual, path_rectangle, path_point, path_via, path_item, as_path, taper, wiring_status, net_item, special_item, net_path, special_path, as_wire, wire, WireMark, wire_shape, wire_style, wire_mask, wire_mark, as_special_wire, special_wire, new_wire, new_special_wire, as_wiring, wiring, as_special_wiring, special_wires, special_wiring}
use Rattle.number_laws.specs.PartNumbers.{Passes, BothPass, PointsNumbers, CornersNumbers, PolygonNumbers}
use Rattle.number_laws.specs.WireNumbers.{StartNumbers, WirePointNumbers, PatchNumbers, ViaArrayNumbers, NetViaNumbers, SpecialViaNumbers, ItemNumbers, PathNumbers, WireNumbers, MarkNumbers, SpecialWireNumbers, WiringNumbers, NetClauseNumbers, NetNumbers, NetEntryNumbers, PlacedViaNumbers, SpecialWiringNumbers, SpecialClauseNumbers, SpecialNetNumbers, ByLayerNumbers, CutArrayNumbers, ViaClauseNumbers, DefViaNumbers, RuleClauseNumbers, RuleNumbers}
use Rattle.number_laws.proofs.Tells.{Tells, NoNumbers, empty_tells, word_tells, one_of_tells, number_tells, behind_tells, before_tells, seq_tells, alt_tells, opt_tells, opt_none, many_tells, many_none, seen_tells, limited_tells}
use Rattle.number_laws.proofs.PartTells.{name_tells, rest_tells, orient_tells, mask_tells, kept_clause_tells, point_tells, two_numbers_tell, later_point_tells, points_tell, corners_tell, polygon_tells}

synthesized_tells : NoNumbers synthesized.of
unfolding synthesized
synthesized_tells = seen_tells as_flag _ (opt_none _ _ (behind_tells _ _ (behind_tells _ _ empty_tells))) (λ b t. tt) (λ b t. tt)

terminal_tells : NoNumbers terminal.of
unfolding terminal
terminal_tells = seen_tells as_terminal _ (behind_tells _ _ (seq_tells _ _ (word_tells is_place) (seq_tells _ _ name_tells (before_tells _ _ synthesized_tells)))) (λ x t. tt) (λ x t. (tt, (tt, tt)))

terminals_tell : NoNumbers (many is_open terminal).of
terminals_tell = many_none is_open terminal.of terminal_tells

wire_via_tells : NoNumbers wire_via.of
unfolding wire_via
wire_via_tells = seen_tells as_wire_via _ (seq_tells _ _ name_tells (opt_none _ _ orient_tells)) (λ v t. tt) (λ v t. (tt, tt))

taper_tells : NoNumbers taper.of
unfolding taper
taper_tells = alt_tells _ _ _ (behind_tells _ _ empty_tells) (alt_tells _ _ _ (behind_tells _ _ name_tells) empty_tells)

status_tells : NoNumbers wiring_status.of
unfolding wiring_status
status_tells = one_of_tells wiring_word wiring_statuses

kind_tells : NoNumbers (on (codes "NOSHIELD") empty wiring_status).of
kind_tells = alt_tells _ _ _ (behind_tells (codes "NOSHIELD") _ empty_tells) status_tells

special_kind_tells : NoNumbers (on (codes "SHIELD") name wiring_status).of
special_kind_tells = alt_tells _ _ _ (behind_tells (codes "SHIELD") _ name_tells) status_tells

plus_mask_tells : NoNumbers plus_mask.of
plus_mask_tells = behind_tells (codes "+") _ (behind_tells (codes "MASK") _ (word_tells is_plain))

via_layers_tell : NoNumbers via_layers.of
unfolding via_layers
via_layers_tell = seen_tells as_via_layers _ (seq_tells _ _ name_tells (seq_tells _ _ name_tells name_tells)) (λ l t. tt) (λ l t. (tt, (tt, tt)))

wire_start_tells : Tells wire_start.of StartNumbers
unfolding wire_start
wire_start_tells =
    seen_tells as_wire_point _ (behind_tells _ _ (seq_tells _ _ (number_tells _) (seq_tells _ _ (number_tells _) (before_tells _ _ (opt_tells _ _ (number_tells _))))))
    (λ p t. ((t.0, t.1.0), t.1.1)) (λ p t. (t.0.0, (t.0.1, t.1)))

wire_point_tells : Tells wire_point.of WirePointNumbers
unfolding wire_point
wire_point_tells =
    seen_tells as_wire_point _ (behind_tells _ _ (seq_tells _ _ (number_tells _) (seq_tells _ _ (number_tells _) (before_tells _ _ (opt_tells _ _ (number_tells _))))))
    (λ p t. ((t.0, t.1.0), t.1.1)) (λ p t. (t.0.0, (t.0.1, t.1)))

wire_rectangle_tells : Tells wire_rectangle.of PatchNumbers
unfolding wire_rectangle
wire_rectangle_tells = seen_tells as_corners _ (behind_tells _ _ (seq_tells _ _ two_numbers_tell (before_tells _ _ two_numbers_tell))) (λ c t. t) (λ c t. t)

via_array_tells : Tells via_array.of ViaArrayNumbers
unfolding via_array array_size
via_array_tells =
    seen_tells as_via_array _ (seq_tells _ _ (limited_tells _ _ _ (seq_tells _ _ (number_tells _) (behind_tells _ _ (number_tells _)))) (behind_tells _ _ two_numbers_tell))
    (λ a t. (t.0.0.0, t.0.0.1, t.0.1, t.1)) (λ a t. (((t.0, t.1), t.2), t.3))

special_via_tells : Tells special_via.of SpecialViaNumbers
unfolding special_via
special_via_tells = seen_tells as_special_via _ (seq_tells _ _ wire_via_tells (opt_tells _ _ (behind_tells _ _ via_array_tells))) (λ v t. t.1) (λ v t. (tt, t))

module _ {Via : Type 0} (via : Form Via) (P : Via → Type 0) (t : Tells via.of P) where
  item_tells : (i : PathItem Via) (ws : List (List ℕ)) → (path_item via).of.bad i ws ≡ None → ItemNumbers P i
  item_tells (path_mask word) ws e = tt
  item_tells (path_virtual at) ws e = later_point_tells.tell at ws e
  item_tells (path_rectangle corners) ws e = wire_rectangle_tells.tell corners ws e
  item_tells (path_point at) ws e = wire_point_tells.tell at ws e
  item_tells (path_via v) ws e = t.tell v ws e

  item_good : (i : PathItem Via) (ws : List (List ℕ)) → ItemNumbers P i → (path_item via).of.bad i ws ≡ None
  item_good (path_mask word) ws p = refl
  item_good (path_virtual at) ws p = later_point_tells.good at ws p
  item_good (path_rectangle corners) ws p = wire_rectangle_tells.good corners ws p
  item_good (path_point at) ws p = wire_point_tells.good at ws p
  item_good (path_via v) ws p = t.good v ws p

  items_tell : Tells (path_item via).of (ItemNumbers P)
  items_tell = record { tell = item_tells; good = item_good }

net_path_tells : Tells net_path.of (PathNumbers NetViaNumbers)
unfolding net_path net_item
net_path_tells =
    seen_tells as_path _ (seq_tells _ _ mask_tells (seq_tells _ _ wire_start_tells (many_tells _ _ (items_tell wire_via NetViaNumbers wire_via_tells))))
    (λ p t. t.1) (λ p t. (tt, t))

special_path_tells : Tells special_path.of (PathNumbers SpecialViaNumbers)
unfolding special_path special_item
special_path_tells =
    seen_tells as_path _ (seq_tells _ _ mask_tells (seq_tells _ _ wire_start_tells (many_tells _ _ (items_tell special_via SpecialViaNumbers special_via_tells))))
    (λ p t. t.1) (λ p t. (tt, t))

wire_tells : Tells wire.of WireNumbers
unfolding wire
wire_tells =
    seen_tells as_wire _ (seq_tells _ _ name_tells (seq_tells _ _ taper_tells (seq_tells _ _ (opt_tells _ _ (behind_tells _ _ (number_tells _))) net_path_tells)))
    (λ w t. t.1.1) (λ w t. (tt, (tt, t)))

mark_tells : (m : WireMark) (ws : List (List ℕ)) → wire_mark.of.bad m ws ≡ None → MarkNumbers m
unfolding wire_mark
mark_tells (wire_shape word) ws e = tt
mark_tells (wire_style n) ws e = (number_tells is_int).tell n ws e
mark_tells (wire_mask word) ws e = tt

mark_good : (m : WireMark) (ws : List (List ℕ)) → MarkNumbers m → wire_mark.of.bad m ws ≡ None
unfolding wire_mark
mark_good (wire_shape word) ws p = refl
mark_good (wire_style n) ws p = (number_tells is_int).good n ws p
mark_good (wire_mask word) ws p = refl

marks_tell : Tells wire_mark.of MarkNumbers
marks_tell = record { tell = mark_tells; good = mark_good }

special_wire_tells : Tells special_wire.of SpecialWireNumbers
unfolding special_wire
special_wire_tells =
    seen_tells as_special_wire _ (seq_tells _ _ name_tells (seq_tells _ _ (number_tells _) (seq_tells _ _ (many_tells _ _ marks_tell) special_path_tells)))
    (λ w t. (t.1.0, t.1.1.0, t.1.1.1)) (λ w t. (tt, (t.0, (t.1, t.2))))

new_wire_tells : Tells new_wire.of WireNumbers
unfolding new_wire
new_wire_tells = behind_tells _ _ wire_tells

new_special_wire_tells : Tells new_special_wire.of SpecialWireNumbers
unfolding new_special_wire
new_special_wire_tells = behind_tells _ _ special_wire_tells

wiring_tells : Tells wiring.of WiringNumbers
unfolding wiring
wiring_tells = seen_tells as_wiring _ (seq_tells _ _ kind_tells (seq_tells _ _ wire_tells (many_tells _ _ new_wire_tells))) (λ w t. t.1) (λ w t. (tt, t))

net_clause_tells : (c : NetClause) (ws : List (List ℕ)) → net_clause.of.bad c ws ≡ None → NetClauseNumbers c
unfolding net_clause net_listed
net_clause_tells (net_subnet tokens) ws e = tt
net_clause_tells (net_use word) ws e = tt
net_clause_tells (net_rule rule) ws e = tt
net_clause_tells (net_wiring w) ws e = wiring_tells.tell w ws e
net_clause_tells (net_kept clause) ws e = tt

net_clause_good : (c : NetClause) (ws : List (List ℕ)) → NetClauseNumbers c → net_clause.of.bad c ws ≡ None
unfolding net_clause net_listed
net_clause_good (net_subnet tokens) ws p = refl
net_clause_good (net_use word) ws p = refl
net_clause_good (net_rule rule) ws p = refl
net_clause_good (net_wiring w) ws p = wiring_tells.good w ws p
net_clause_good (net_kept clause) ws p = kept_clause_tells.good clause ws tt

net_clauses_tell : Tells net_clause.of NetClauseNumbers
net_clauses_tell = record { tell = net_clause_tells; good = net_clause_good }

net_tells : Tells net.of NetNumbers
unfolding net
net_tells = seen_tells as_net _ (seq_tells _ _ name_tells (seq_tells _ _ terminals_tell (many_tells _ _ net_clauses_tell))) (λ n t. t.1.1) (λ n t. (tt, (tt, t)))

net_entry_tells : (n : NetEntry) (ws : List (List ℕ)) → net_form.of.bad n ws ≡ None → NetEntryNumbers n
unfolding net_form
net_entry_tells (must_join tokens) ws e = tt
net_entry_tells (is_net n) ws e = net_tells.tell n (codes ";" ∷ ws) e

net_entry_good : (n : NetEntry) (ws : List (List ℕ)) → NetEntryNumbers n → net_form.of.bad n ws ≡ None
unfolding net_form
net_entry_good (must_join tokens) ws p = refl
net_entry_good (is_net n) ws p = net_tells.good n (codes ";" ∷ ws) p

pub net_form_tells : Tells net_form.of NetEntryNumbers
net_form_tells = record { tell = net_entry_tells; good = net_entry_good }

placed_via_tells : Tells placed_via.of PlacedViaNumbers
unfolding placed_via
placed_via_tells = seen_tells as_placed_via _ (seq_tells _ _ wire_via_tells (seq_tells _ _ point_tells (many_tells _ _ later_point_tells))) (λ v t. t.1) (λ v t. (tt, t))

special_wires_tell : Tells special_wires.of (All SpecialWireNumbers)
unfolding special_wires
special_wires_tell =
    seen_tells as_list _ (opt_tells _ _ (seq_tells _ _ special_wire_tells (many_tells _ _ new_special_wire_tells)))
    (elim [ [] ↦ λ t. All-nil SpecialWireNumbers | w ∷ all ↦ λ t. All-cons SpecialWireNumbers w all t.0 t.1 ])
    (elim [ [] ↦ λ t. tt | w ∷ all ↦ λ t. (All-head SpecialWireNumbers w all t, All-tail SpecialWireNumbers w all t) ])

special_wiring_tells : Tells special_wiring.of SpecialWiringNumbers
unfolding special_wiring
special_wiring_tells = seen_tells as_special_wiring _ (seq_tells _ _ special_kind_tells special_wires_tell) (λ w t. t.1) (λ w t. (tt, t))

layer_corners_tell : Tells (name ⨟ corners).of (λ x. CornersNumbers x.1)
layer_corners_tell = record { tell = λ x ws e. ((seq_tells _ _ name_tells corners_tell).tell x ws e).1; good = λ x ws p. (seq_tells _ _ name_tells corners_tell).good x ws (tt, p) }

layer_polygon_tells : Tells (name ⨟ polygon).of (λ x. PolygonNumbers x.1)
layer_polygon_tells = record { tell = λ x ws e. ((seq_tells _ _ name_tells polygon_tells).tell x ws e).1; good = λ x ws p. (seq_tells _ _ name_tells polygon_tells).good x ws (tt, p) }

special_clause_tells : (c : SpecialClause) (ws : List (List ℕ)) → special_clause.of.bad c ws ≡ None → SpecialClauseNumbers c
unfolding special_clause special_listed special_shape
special_clause_tells (special_subnet tokens) ws e = tt
special_clause_tells (special_use word) ws e = tt
special_clause_tells (special_shape_word word) ws e = tt
special_clause_tells (special_mask word) ws e = tt
special_clause_tells (special_rectangle layer corners) ws e = layer_corners_tell.tell (layer, corners) ws e
special_clause_tells (special_vias via) ws e = placed_via_tells.tell via ws e
special_clause_tells (special_polygon layer polygon) ws e = layer_polygon_tells.tell (layer, polygon) ws e
special_clause_tells (special_has_wiring w) ws e = special_wiring_tells.tell w ws e
special_clause_tells (special_kept clause) ws e = tt

special_clause_good : (c : SpecialClause) (ws : List (List ℕ)) → SpecialClauseNumbers c → special_clause.of.bad c ws ≡ None
unfolding special_clause special_listed special_shape
special_clause_good (special_subnet tokens) ws p = refl
special_clause_good (special_use word) ws p = refl
special_clause_good (special_shape_word word) ws p = refl
special_clause_good (special_mask word) ws p = refl
special_clause_good (special_rectangle layer corners) ws p = layer_corners_tell.good (layer, corners) ws p
special_clause_good (special_vias via) ws p = placed_via_tells.good via ws p
special_clause_good (special_polygon layer polygon) ws p = layer_polygon_tells.good (layer, polygon) ws p
special_clause_good (special_has_wiring w) ws p = special_wiring_tells.good w ws p
special_clause_good (special_kept clause) ws p = kept_clause_tells.good clause ws tt

special_clauses_tell : Tells special_clause.of SpecialClauseNumbers
special_clauses_tell = record { tell = special_clause_tells; good = special_clause_good }

pub special_net_form_tells : Tells special_net_form.of SpecialNetNumbers
unfolding special_net_form
special_net_form_tells =
    seen_tells as_special_net _ (behind_tells _ _ (seq_tells _ _ name_tells (seq_tells _ _ terminals_tell (before_tells _ _ (many_tells _ _ special_clauses_tell)))))
    (λ n t. t.1.1) (λ n t. (tt, (tt, t)))

via_rectangle_tells : Tells via_rectangle.of (λ r. CornersNumbers r.corners)
unfolding via_rectangle
via_rectangle_tells = seen_tells as_via_rectangle _ (seq_tells _ _ name_tells (seq_tells _ _ (opt_none is_plus plus_mask.of plus_mask_tells) corners_tell)) (λ r t. t.1.1) (λ r t. (tt, (tt, t)))

masked_tell : Tells (name ⨟ plus_mask ⨟ points).of (λ x. PointsNumbers x.1.1)
masked_tell = record { tell = λ x ws e. ((seq_tells _ _ name_tells (seq_tells _ _ plus_mask_tells points_tell)).tell x ws e).1.1; good = λ x ws p. (seq_tells _ _ name_tells (seq_tells _ _ plus_mask_tells points_tell)).good x ws (tt, (tt, p)) }

plain_tell : Tells (name ⨟ points).of (λ x. PointsNumbers x.1)
plain_tell = record { tell = λ x ws e. ((seq_tells _ _ name_tells points_tell).tell x ws e).1; good = λ x ws p. (seq_tells _ _ name_tells points_tell).good x ws (tt, p) }

polygon_by_mask : (layer : List ℕ) (at : List Coordinates) (mask : Option (List ℕ)) (ws : List (List ℕ))
    → via_polygon.of.bad (record { layer = layer; mask = mask; points = at }) ws ≡ None → PointsNumbers at
unfolding via_polygon
polygon_by_mask layer at (Some mask) ws e = masked_tell.tell (layer, (mask, at)) ws e
polygon_by_mask layer at None ws e = plain_tell.tell (layer, at) ws e

polygon_good : (layer : List ℕ) (at : List Coordinates) (mask : Option (List ℕ)) (ws : List (List ℕ))
    → PointsNumbers at → via_polygon.of.bad (record { layer = layer; mask = mask; points = at }) ws ≡ None
unfolding via_polygon
polygon_good layer at (Some mask) ws p = masked_tell.good (layer, (mask, at)) ws p
polygon_good layer at None ws p = plain_tell.good (layer, at) ws p

via_polygon_tells : Tells via_polygon.of (λ p. PointsNumbers p.points)
via_polygon_tells = record { tell = λ p ws e. polygon_by_mask p.layer p.points p.mask ws e; good = λ p ws n. polygon_good p.layer p.points p.mask ws n }

two_sizes_tell : Tells two_sizes.of (BothPass is_size)
unfolding two_sizes
two_sizes_tell = seen_tells as_point _ (seq_tells _ _ (number_tells _) (number_tells _)) (λ at t. t) (λ at t. t)

by_layer_tells : Tells by_layer.of ByLayerNumbers
unfolding by_layer
by_layer_tells = seen_tells as_by_layer _ (seq_tells _ _ two_numbers_tell two_numbers_tell) (λ by t. t) (λ by t. t)

cut_array_tells : Tells cut_array.of CutArrayNumbers
unfolding cut_array
cut_array_tells = seen_tells as_cut_array _ (seq_tells _ _ (number_tells _) (number_tells _)) (λ a t. t) (λ a t. t)

via_clause_tells : (c : ViaClause) (ws : List (List ℕ)) → via_clause.of.bad c ws ≡ None → ViaClauseNumbers c
unfolding via_clause generated_clause via_array_clause
via_clause_tells (via_has_rectangle r) ws e = via_rectangle_tells.tell r ws e
via_clause_tells (via_has_polygon p) ws e = via_polygon_tells.tell p ws e
via_clause_tells (via_rule rule) ws e = tt
via_clause_tells (cut_size size) ws e = two_sizes_tell.tell size ws e
via_clause_tells (on_layers layers) ws e = tt
via_clause_tells (cut_spacing space) ws e = two_sizes_tell.tell space ws e
via_clause_tells (enclosure by) ws e = by_layer_tells.tell by ws e
via_clause_tells (row_col array) ws e = cut_array_tells.tell array ws e
via_clause_tells (via_origin at) ws e = two_numbers_tell.tell at ws e
via_clause_tells (via_offset by) ws e = by_layer_tells.tell by ws e
via_clause_tells (via_kept clause) ws e = tt

via_clause_good : (c : ViaClause) (ws : List (List ℕ)) → ViaClauseNumbers c → via_clause.of.bad c ws ≡ None
unfolding via_clause generated_clause via_array_clause
via_clause_good (via_has_rectangle r) ws p = via_rectangle_tells.good r ws p
via_clause_good (via_has_polygon q) ws p = via_polygon_tells.good q ws p
via_clause_good (via_rule rule) ws p = refl
via_clause_good (cut_size size) ws p = two_sizes_tell.good size ws p
via_clause_good (on_layers layers) ws p = via_layers_tell.good layers ws tt
via_clause_good (cut_spacing space) ws p = two_sizes_tell.good space ws p
via_clause_good (enclosure by) ws p = by_layer_tells.good by ws p
via_clause_good (row_col array) ws p = cut_array_tells.good array ws p
via_clause_good (via_origin at) ws p = two_numbers_tell.good at ws p
via_clause_good (via_offset by) ws p = by_layer_tells.good by ws p
via_clause_good (via_kept clause) ws p = kept_clause_tells.good clause ws tt

via_clauses_tell : Tells via_clause.of ViaClauseNumbers
via_clauses_tell = record { tell = via_clause_tells; good = via_clause_good }

pub def_via_form_tells : Tells def_via_form.of DefViaNumbers
unfolding def_via_form
def_via_form_tells = seen_tells as_def_via _ (behind_tells _ _ (seq_tells _ _ name_tells (before_tells _ _ (many_tells _ _ via_clauses_tell)))) (λ v t. t.1) (λ v t. (tt, t))

rule_layer_tells : Tells rule_layer.of (λ l. Passes is_size l.width)
unfolding rule_layer
rule_layer_tells = seen_tells as_rule_layer _ (seq_tells _ _ name_tells (behind_tells _ _ (seq_tells _ _ (number_tells _) rest_tells))) (λ l t. t.1.0) (λ l t. (tt, (t, tt)))

rule_clause_tells : (c : RuleClause) (ws : List (List ℕ)) → rule_clause.of.bad c ws ≡ None → RuleClauseNumbers c
unfolding rule_clause
rule_clause_tells (rule_has_layer l) ws e = rule_layer_tells.tell l ws e
rule_clause_tells (rule_kept clause) ws e = tt

rule_clause_good : (c : RuleClause) (ws : List (List ℕ)) → RuleClauseNumbers c → rule_clause.of.bad c ws ≡ None
unfolding rule_clause
rule_clause_good (rule_has_layer l) ws p = rule_layer_tells.good l ws p
rule_clause_good (rule_kept clause) ws p = kept_clause_tells.good clause ws tt

rule_clauses_tell : Tells rule_clause.of RuleClauseNumbers
rule_clauses_tell = record { tell = rule_clause_tells; good = rule_clause_good }

pub rule_form_tells : Tells rule_form.of RuleNumbers
unfolding rule_form
rule_form_tells = seen_tells as_rule _ (behind_tells _ _ (seq_tells _ _ name_tells (before_tells _ _ (many_tells _ _ rule_clauses_tell)))) (λ r t. t.1) (λ r t. (tt, t))
