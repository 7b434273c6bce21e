-- The pieces of the wires of a design, in database units, of which there are u in a micron (LEF/DEF 5.8 Language Reference,
-- "Regular Wiring Statement" and "Special Wiring Statement").
use Rattle.std.specs.Prelude.{ℕ, List, flat_map, Option, ℤ, pos}
use Rattle.form_meanings.specs.Firsts.{first_of}
use Rattle.lef_grammar.specs.Library.{Library}
use Rattle.def_grammar.specs.Numbers.{int_of}
use Rattle.def_grammar.specs.Nets.{Net, rule_of_clause}
use Rattle.def_grammar.specs.NetWires.{net_wires}
use Rattle.def_grammar.specs.SpecialNets.{SpecialNet}
use Rattle.def_grammar.specs.SpecialWires.{special_net_wires}
use Rattle.def_grammar.specs.Wiring.{Path, Wire, SpecialWire}
use Rattle.def_grammar.specs.Records.{Record}
use Rattle.wire_rules.specs.Paths.{Piece, PathPlace, ViaUse, WireMakings, pieces_from}
use Rattle.wire_rules.specs.Sizes.{as_size}
use Rattle.wire_rules.specs.ViaShapes.{half}
use Rattle.entry_rules.specs.ViaLayers.{via_layers}
use Rattle.entry_rules.specs.WireItems.{extension_of, items_of, net_via, special_via, start_of}
use Rattle.net_rules.specs.ViaRectangles.{via_shapes}
use Rattle.net_rules.specs.Widths.{rule_of_wire, wire_width}

-- where a path begins on a layer
abbrev pub place_at_start : {Via : Type 0} → (Via → ViaUse) → List ℕ → Path Via → PathPlace
place_at_start use_of layer p = record { layer = layer; at = start_of use_of p; past = extension_of p.start }

abbrev pub path_pieces : {Via : Type 0} → (Via → ViaUse) → WireMakings → List ℕ → Path Via → List Piece
path_pieces use_of rules layer p = pieces_from rules (place_at_start use_of layer p) (items_of use_of p)

module _ (library : Library) (design : List Record) (u : ℕ) where
  -- a wire of NETS, with its rule: it goes past its ends by half its width where nothing is said
  abbrev pub net_wire_rules : Option (List ℕ) → WireMakings
  net_wire_rules rule = record { width = wire_width library design u rule; past_end = half; via_layers = via_layers library design; via_shapes = via_shapes library design u }

  abbrev pub wire_pieces : Option (List ℕ) → Wire → List Piece
  wire_pieces net_rule w = path_pieces net_via (net_wire_rules (rule_of_wire net_rule w.taper)) w.layer w.path

  -- an entry of NETS, with its first NONDEFAULTRULE
  abbrev pub net_pieces : Net → List Piece
  net_pieces n = flat_map (wire_pieces (first_of rule_of_clause n.clauses)) (net_wires n)

  -- a wire of SPECIALNETS has the width that is written, also after a via, and ends at its points where nothing is said
  abbrev pub special_wire_rules : ℤ → WireMakings
  special_wire_rules width = record { width = λ layer. width; past_end = λ w. pos 0; via_layers = via_layers library design; via_shapes = via_shapes library design u }

  abbrev pub special_wire_pieces : SpecialWire → List Piece
  special_wire_pieces w = path_pieces special_via (special_wire_rules (as_size (int_of w.width))) w.layer w.path

  -- an entry of SPECIALNETS
  abbrev pub special_net_pieces : SpecialNet → List Piece
  special_net_pieces n = flat_map special_wire_pieces (special_net_wires n)
