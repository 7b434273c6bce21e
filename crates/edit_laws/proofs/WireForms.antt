-- The entries of the sections about wires, and of those that are skipped: - and words that are no ; before one.
use Rattle.std.proofs.Common.{refl}
use Rattle.def_grammar.specs.Clauses.{as_list, as_flag}
use Rattle.def_grammar.specs.DefVias.{plus_mask, as_via_rectangle, via_rectangle, as_via_polygon, via_polygon, as_via_layers, via_layers, as_by_layer, by_layer, as_cut_array, cut_array, two_sizes, via_array_clause, generated_clause, via_clause, as_def_via, def_via_form}
use Rattle.def_grammar.specs.Nets.{net_listed, net_clause, as_net, net, net_form}
use Rattle.def_grammar.specs.Parts.{as_point}
use Rattle.def_grammar.specs.Points.{as_corners}
use Rattle.def_grammar.specs.Rules.{as_rule_layer, rule_layer, rule_clause, as_rule, rule_form}
use Rattle.def_grammar.specs.Skipped.{skipped_form}
use Rattle.def_grammar.specs.SpecialNets.{as_placed_via, placed_via, special_shape, special_listed, special_clause, as_special_net, special_net_form}
use Rattle.def_grammar.specs.Terminals.{synthesized, as_terminal, terminal}
use Rattle.def_grammar.specs.Wiring.{wiring_word, wiring_statuses, wiring_status, extension, as_wire_point, wire_start, wire_point, wire_rectangle, as_wire_via, wire_via, as_via_array, array_size, via_array, as_special_via, special_via, path_item, as_path, net_item, special_item, net_path, special_path, taper, as_wire, wire, wire_mark, as_special_wire, special_wire, new_wire, new_special_wire, as_wiring, wiring, as_special_wiring, special_wires, special_wiring}
use Rattle.statement_model.specs.Form.{Form}
use Rattle.edit_laws.proofs.PartForms.{name_plain, rest_plain, point_plain, two_numbers_plain, later_point_plain, points_plain, corners_plain, polygon_plain, orient_plain, mask_plain, kept_clause_plain}
use Rattle.edit_laws.proofs.Plain.{Plain, empty_plain, word_plain, number_plain, one_of_plain, upto_plain, behind_plain, before_plain, closed_plain, seq_plain, alt_plain, opt_plain, many_plain, or_else_plain, limited_plain, seen_plain, before_ends, seq_ends, IsEntryForm, minus_entries, seen_entries}

synthesized_plain : Plain synthesized.of
unfolding synthesized
synthesized_plain = seen_plain as_flag _ (opt_plain _ _ (behind_plain _ _ refl (behind_plain _ _ refl empty_plain)))

terminal_plain : Plain terminal.of
unfolding terminal
terminal_plain = seen_plain as_terminal _ (behind_plain _ _ refl (seq_plain _ _ (word_plain _ refl) (seq_plain _ _ name_plain (before_plain _ _ synthesized_plain refl))))

wiring_status_plain : Plain wiring_status.of
unfolding wiring_status wiring_word
wiring_status_plain = one_of_plain wiring_word wiring_statuses refl

extension_plain : Plain extension.of
extension_plain = opt_plain _ _ (number_plain _)

wire_start_plain : Plain wire_start.of
unfolding wire_start
wire_start_plain = seen_plain as_wire_point _ (behind_plain _ _ refl (seq_plain _ _ (number_plain _) (seq_plain _ _ (number_plain _) (before_plain _ _ extension_plain refl))))

wire_point_plain : Plain wire_point.of
unfolding wire_point
wire_point_plain = seen_plain as_wire_point _ (behind_plain _ _ refl (seq_plain _ _ (number_plain _) (seq_plain _ _ (number_plain _) (before_plain _ _ extension_plain refl))))

wire_rectangle_plain : Plain wire_rectangle.of
unfolding wire_rectangle
wire_rectangle_plain = seen_plain as_corners _ (behind_plain _ _ refl (seq_plain _ _ two_numbers_plain (before_plain _ _ two_numbers_plain refl)))

wire_via_plain : Plain wire_via.of
unfolding wire_via
wire_via_plain = seen_plain as_wire_via _ (seq_plain _ _ name_plain (opt_plain _ _ orient_plain))

array_size_plain : Plain array_size.of
unfolding array_size
array_size_plain = limited_plain _ _ _ (seq_plain _ _ (number_plain _) (behind_plain _ _ refl (number_plain _)))

via_array_plain : Plain via_array.of
unfolding via_array
via_array_plain = seen_plain as_via_array _ (seq_plain _ _ array_size_plain (behind_plain _ _ refl two_numbers_plain))

special_via_plain : Plain special_via.of
unfolding special_via
special_via_plain = seen_plain as_special_via _ (seq_plain _ _ wire_via_plain (opt_plain _ _ (behind_plain _ _ refl via_array_plain)))

path_item_plain : {Via : Type 0} (via : Form Via) → Plain via.of → Plain (path_item via).of
path_item_plain via p =
    alt_plain _ _ _ (behind_plain _ _ refl (word_plain _ refl)) (alt_plain _ _ _ (behind_plain _ _ refl later_point_plain) (
    alt_plain _ _ _ (behind_plain _ _ refl wire_rectangle_plain) (alt_plain _ _ _ wire_point_plain p)))

net_path_plain : Plain net_path.of
unfolding net_path net_item
net_path_plain = seen_plain as_path _ (seq_plain _ _ mask_plain (seq_plain _ _ wire_start_plain (many_plain _ _ (path_item_plain wire_via wire_via_plain))))

special_path_plain : Plain special_path.of
unfolding special_path special_item
special_path_plain = seen_plain as_path _ (seq_plain _ _ mask_plain (seq_plain _ _ wire_start_plain (many_plain _ _ (path_item_plain special_via special_via_plain))))

taper_plain : Plain taper.of
unfolding taper
taper_plain = alt_plain _ _ _ (behind_plain _ _ refl empty_plain) (alt_plain _ _ _ (behind_plain _ _ refl name_plain) empty_plain)

wire_plain : Plain wire.of
unfolding wire
wire_plain = seen_plain as_wire _ (seq_plain _ _ name_plain (seq_plain _ _ taper_plain (seq_plain _ _ (opt_plain _ _ (behind_plain _ _ refl (number_plain _))) net_path_plain)))

wire_mark_plain : Plain wire_mark.of
unfolding wire_mark
wire_mark_plain =
    behind_plain _ _ refl (alt_plain _ _ _ (behind_plain _ _ refl (word_plain _ refl)) (
    alt_plain _ _ _ (behind_plain _ _ refl (number_plain _)) (behind_plain _ _ refl (word_plain _ refl))))

special_wire_plain : Plain special_wire.of
unfolding special_wire
special_wire_plain = seen_plain as_special_wire _ (seq_plain _ _ name_plain (seq_plain _ _ (number_plain _) (seq_plain _ _ (many_plain _ _ wire_mark_plain) special_path_plain)))

new_wire_plain : Plain new_wire.of
unfolding new_wire
new_wire_plain = behind_plain _ _ refl wire_plain

new_special_wire_plain : Plain new_special_wire.of
unfolding new_special_wire
new_special_wire_plain = behind_plain _ _ refl special_wire_plain

wiring_plain : Plain wiring.of
unfolding wiring
wiring_plain = seen_plain as_wiring _ (seq_plain _ _ (alt_plain _ _ _ (behind_plain _ _ refl empty_plain) wiring_status_plain) (seq_plain _ _ wire_plain (many_plain _ _ new_wire_plain)))

special_wires_plain : Plain special_wires.of
unfolding special_wires
special_wires_plain = seen_plain as_list _ (opt_plain _ _ (seq_plain _ _ special_wire_plain (many_plain _ _ new_special_wire_plain)))

special_wiring_plain : Plain special_wiring.of
unfolding special_wiring
special_wiring_plain = seen_plain as_special_wiring _ (seq_plain _ _ (alt_plain _ _ _ (behind_plain _ _ refl name_plain) wiring_status_plain) special_wires_plain)

net_listed_plain : Plain net_listed.of
unfolding net_listed
net_listed_plain = closed_plain _ _ (alt_plain _ _ _ (behind_plain _ _ refl (word_plain _ refl)) (alt_plain _ _ _ (behind_plain _ _ refl name_plain) wiring_plain))

net_clause_plain : Plain net_clause.of
unfolding net_clause
net_clause_plain = behind_plain _ _ refl (alt_plain _ _ _ (behind_plain _ _ refl (upto_plain _ refl)) (or_else_plain _ _ net_listed_plain kept_clause_plain))

net_plain : Plain net.of
unfolding net
net_plain = seen_plain as_net _ (seq_plain _ _ name_plain (seq_plain _ _ (many_plain _ _ terminal_plain) (many_plain _ _ net_clause_plain)))

pub net_entries : IsEntryForm net_form.of
unfolding net_form
net_entries = minus_entries _ (before_ends _ (alt_plain _ _ _ (behind_plain _ _ refl (upto_plain _ refl)) net_plain))

placed_via_plain : Plain placed_via.of
unfolding placed_via
placed_via_plain = seen_plain as_placed_via _ (seq_plain _ _ wire_via_plain (seq_plain _ _ point_plain (many_plain _ _ later_point_plain)))

special_shape_plain : Plain special_shape.of
unfolding special_shape
special_shape_plain =
    alt_plain _ _ _ (behind_plain _ _ refl (seq_plain _ _ name_plain corners_plain)) (alt_plain _ _ _ (behind_plain _ _ refl placed_via_plain) (
    alt_plain _ _ _ (behind_plain _ _ refl (seq_plain _ _ name_plain polygon_plain)) special_wiring_plain))

special_listed_plain : Plain special_listed.of
unfolding special_listed
special_listed_plain =
    closed_plain _ _ (alt_plain _ _ _ (behind_plain _ _ refl (word_plain _ refl)) (alt_plain _ _ _ (behind_plain _ _ refl (word_plain _ refl)) (
    alt_plain _ _ _ (behind_plain _ _ refl (word_plain _ refl)) special_shape_plain)))

special_clause_plain : Plain special_clause.of
unfolding special_clause
special_clause_plain = behind_plain _ _ refl (alt_plain _ _ _ (behind_plain _ _ refl (upto_plain _ refl)) (or_else_plain _ _ special_listed_plain kept_clause_plain))

pub special_net_entries : IsEntryForm special_net_form.of
unfolding special_net_form
special_net_entries = seen_entries as_special_net _ (minus_entries _ (seq_ends _ _ name_plain (seq_ends _ _ (many_plain _ _ terminal_plain) (before_ends _ (many_plain _ _ special_clause_plain)))))

plus_mask_plain : Plain plus_mask.of
plus_mask_plain = behind_plain _ _ refl (behind_plain _ _ refl (word_plain _ refl))

via_rectangle_plain : Plain via_rectangle.of
unfolding via_rectangle
via_rectangle_plain = seen_plain as_via_rectangle _ (seq_plain _ _ name_plain (seq_plain _ _ (opt_plain _ _ plus_mask_plain) corners_plain))

via_polygon_plain : Plain via_polygon.of
unfolding via_polygon
via_polygon_plain =
    seen_plain as_via_polygon _ (or_else_plain _ _ (closed_plain _ _ (seq_plain _ _ name_plain (seq_plain _ _ plus_mask_plain points_plain))) (closed_plain _ _ (seq_plain _ _ name_plain points_plain)))

two_sizes_plain : Plain two_sizes.of
unfolding two_sizes
two_sizes_plain = seen_plain as_point _ (seq_plain _ _ (number_plain _) (number_plain _))

via_layers_plain : Plain via_layers.of
unfolding via_layers
via_layers_plain = seen_plain as_via_layers _ (seq_plain _ _ name_plain (seq_plain _ _ name_plain name_plain))

by_layer_plain : Plain by_layer.of
unfolding by_layer
by_layer_plain = seen_plain as_by_layer _ (seq_plain _ _ two_numbers_plain two_numbers_plain)

cut_array_plain : Plain cut_array.of
unfolding cut_array
cut_array_plain = seen_plain as_cut_array _ (seq_plain _ _ (number_plain _) (number_plain _))

via_array_clause_plain : Plain via_array_clause.of
unfolding via_array_clause
via_array_clause_plain =
    alt_plain _ _ _ (behind_plain _ _ refl cut_array_plain) (alt_plain _ _ _ (behind_plain _ _ refl two_numbers_plain) (
    alt_plain _ _ _ (behind_plain _ _ refl by_layer_plain) kept_clause_plain))

generated_clause_plain : Plain generated_clause.of
unfolding generated_clause
generated_clause_plain =
    alt_plain _ _ _ (behind_plain _ _ refl two_sizes_plain) (alt_plain _ _ _ (behind_plain _ _ refl via_layers_plain) (
    alt_plain _ _ _ (behind_plain _ _ refl two_sizes_plain) (alt_plain _ _ _ (behind_plain _ _ refl by_layer_plain) via_array_clause_plain)))

via_clause_plain : Plain via_clause.of
unfolding via_clause
via_clause_plain =
    behind_plain _ _ refl (closed_plain _ _ (alt_plain _ _ _ (behind_plain _ _ refl via_rectangle_plain) (alt_plain _ _ _ (behind_plain _ _ refl via_polygon_plain) (
    alt_plain _ _ _ (behind_plain _ _ refl name_plain) generated_clause_plain))))

pub def_via_entries : IsEntryForm def_via_form.of
unfolding def_via_form
def_via_entries = seen_entries as_def_via _ (minus_entries _ (seq_ends _ _ name_plain (before_ends _ (many_plain _ _ via_clause_plain))))

rule_layer_plain : Plain rule_layer.of
unfolding rule_layer
rule_layer_plain = seen_plain as_rule_layer _ (seq_plain _ _ name_plain (behind_plain _ _ refl (seq_plain _ _ (number_plain _) rest_plain)))

rule_clause_plain : Plain rule_clause.of
unfolding rule_clause
rule_clause_plain = behind_plain _ _ refl (alt_plain _ _ _ (behind_plain _ _ refl rule_layer_plain) kept_clause_plain)

pub rule_entries : IsEntryForm rule_form.of
unfolding rule_form
rule_entries = seen_entries as_rule _ (minus_entries _ (seq_ends _ _ name_plain (before_ends _ (many_plain _ _ rule_clause_plain))))

pub skipped_words : IsEntryForm skipped_form.of
unfolding skipped_form
skipped_words = minus_entries _ (before_ends _ (upto_plain _ refl))
