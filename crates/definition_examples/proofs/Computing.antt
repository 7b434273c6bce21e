-- What rows compute with. A row that names one of these unfolds what stands on its line.
use Rattle.std.specs.Fmt.{digits}
use Rattle.design_model.specs.EnumWords.{orient_word, status_word, section_word}
use Rattle.design_model.specs.Units.{whole}
use Rattle.form_meanings.specs.Meaning.{repeat}
use Rattle.form_meanings.specs.Words.{number_at, split_at}
use Rattle.statement_model.specs.Boundaries.{last_of, statements}
use Rattle.statement_model.specs.Reading.{read_on, read_text}
use Rattle.statement_model.specs.Tokens.{lex}
use Rattle.def_grammar.specs.Blockages.{blockage_kind, blockage_clause, blockage_shape, blockage, blockage_form}
use Rattle.def_grammar.specs.Clauses.{kept_clause}
use Rattle.def_grammar.specs.Components.{placement, clause, component_form}
use Rattle.def_grammar.specs.DefVias.{via_rectangle, via_polygon, two_sizes, via_layers, by_layer, cut_array, via_array_clause, generated_clause, via_clause, def_via_form}
use Rattle.def_grammar.specs.DieArea.{die_area_statement}
use Rattle.def_grammar.specs.Extensions.{extension_statement}
use Rattle.def_grammar.specs.Grids.{axis_word, tracks_statement, grid_lines, gcell_grid_statement}
use Rattle.def_grammar.specs.Groups.{group_clause, group_form}
use Rattle.def_grammar.specs.Limits.{is_copies, is_array, is_cuts, is_lines, is_in_range}
use Rattle.def_grammar.specs.Nets.{net_listed, net_clause, net, net_form}
use Rattle.def_grammar.specs.Numbers.{is_int, is_scale, is_count}
use Rattle.def_grammar.specs.Parts.{point, orient}
use Rattle.def_grammar.specs.Pins.{clearance, pin_rectangle, pin_via, pin_shape, pin_clause, pin_form}
use Rattle.def_grammar.specs.Points.{two_numbers, is_coordinate, later_point, points, corners, polygon}
use Rattle.def_grammar.specs.Properties.{property_statement}
use Rattle.def_grammar.specs.Records.{entries_form, statement}
use Rattle.def_grammar.specs.Regions.{region_kind_word, region_clause, later_corners, region_form}
use Rattle.def_grammar.specs.Rows.{site_array, row_clause, row_statement}
use Rattle.def_grammar.specs.Rules.{rule_layer, rule_clause, rule_form}
use Rattle.def_grammar.specs.Skipped.{skipped_form}
use Rattle.def_grammar.specs.SpecialNets.{placed_via, special_shape, special_listed, special_clause, special_net_form}
use Rattle.def_grammar.specs.Terminals.{synthesized, terminal}
use Rattle.def_grammar.specs.Top.{units_statement, header_statement, floor_statement, kept_statement, plain_statement, top_statement}
use Rattle.def_grammar.specs.Wiring.{wiring_word, wiring_status, wire_start, wire_point, wire_rectangle, wire_via, array_size, via_array, special_via, net_item, special_item, net_path, special_path, taper, wire, wire_mark, special_wire, new_wire, new_special_wire, wiring, special_wires, special_wiring}

-- tokens, numbers, and the parts that several forms share
unfoldable pub parts : Unit {0}
unfolding lex repeat split_at number_at whole is_int is_count is_scale is_coordinate orient_word status_word point orient placement two_numbers later_point points corners polygon kept_clause
parts = tt

-- the statements outside of all sections
unfoldable pub outside : Unit {0}
unfolding parts is_lines is_in_range axis_word site_array row_clause row_statement tracks_statement grid_lines gcell_grid_statement die_area_statement property_statement extension_statement units_statement section_word header_statement floor_statement kept_statement plain_statement top_statement
outside = tt

-- the entries about places, and those that are skipped
unfoldable pub place_entries : Unit {0}
unfolding parts clause component_form clearance pin_rectangle pin_via pin_shape pin_clause pin_form region_kind_word later_corners region_clause region_form group_clause group_form blockage_kind blockage_clause blockage_shape blockage blockage_form skipped_form
place_entries = tt

-- the entries about wires
unfoldable pub wire_entries : Unit {0}
unfolding parts is_copies is_array is_cuts wiring_word synthesized terminal wiring_status wire_start wire_point wire_rectangle wire_via array_size via_array special_via net_item special_item net_path special_path taper wire wire_mark special_wire new_wire new_special_wire wiring special_wires special_wiring net_listed net_clause net net_form placed_via special_shape special_listed special_clause special_net_form rule_layer rule_clause rule_form via_rectangle via_polygon two_sizes via_layers by_layer cut_array via_array_clause generated_clause via_clause def_via_form
wire_entries = tt

-- whole DEF texts, and what is printed of them
unfoldable pub def_texts : Unit {0}
unfolding outside place_entries wire_entries last_of statements read_on read_text entries_form statement digits
def_texts = tt
