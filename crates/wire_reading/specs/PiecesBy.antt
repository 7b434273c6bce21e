-- The pieces of entries, by what a rule or a width makes wires of.
use Rattle.std.specs.Prelude.{◌≡◌, ℕ, List, flat_map, Option, ℤ}
use Rattle.form_meanings.specs.Firsts.{first_of}
use Rattle.lef_grammar.specs.Library.{Library}
use Rattle.def_grammar.specs.Nets.{Net, rule_of_clause}
use Rattle.def_grammar.specs.NetWires.{net_wires}
use Rattle.def_grammar.specs.Numbers.{int_of}
use Rattle.def_grammar.specs.Records.{Record}
use Rattle.def_grammar.specs.SpecialNets.{SpecialNet}
use Rattle.def_grammar.specs.SpecialWires.{special_net_wires}
use Rattle.def_grammar.specs.Wiring.{SpecialWire, Wire}
use Rattle.wire_rules.specs.Paths.{Piece, WireMakings}
use Rattle.wire_rules.specs.Sizes.{as_size}
use Rattle.entry_rules.specs.WireItems.{net_via, special_via}
use Rattle.net_rules.specs.Widths.{rule_of_wire}
use Rattle.net_rules.specs.WirePieces.{net_pieces, net_wire_rules, path_pieces, special_net_pieces, special_wire_rules}

-- a wire of NETS, with the rule of its net
abbrev pub wire_pieces_by : (Option (List ℕ) → WireMakings) → Option (List ℕ) → Wire → List Piece
wire_pieces_by rules net_rule w = path_pieces net_via (rules (rule_of_wire net_rule w.taper)) w.layer w.path

-- an entry of NETS, with its first NONDEFAULTRULE
abbrev pub net_pieces_by : (Option (List ℕ) → WireMakings) → Net → List Piece
net_pieces_by rules n = flat_map (wire_pieces_by rules (first_of rule_of_clause n.clauses)) (net_wires n)

-- a wire of SPECIALNETS
abbrev pub special_wire_pieces_by : (ℤ → WireMakings) → SpecialWire → List Piece
special_wire_pieces_by rules w = path_pieces special_via (rules (as_size (int_of w.width))) w.layer w.path

-- an entry of SPECIALNETS
abbrev pub special_net_pieces_by : (ℤ → WireMakings) → SpecialNet → List Piece
special_net_pieces_by rules n = flat_map (special_wire_pieces_by rules) (special_net_wires n)

-- By the rules of a design these are the pieces of its entries.
abbrev pub NetPiecesOfDesign : Type 0
NetPiecesOfDesign = (library : Library) (design : List Record) (u : ℕ) (n : Net) → net_pieces_by (net_wire_rules library design u) n ≡ net_pieces library design u n

abbrev pub SpecialNetPiecesOfDesign : Type 0
SpecialNetPiecesOfDesign =
    (library : Library) (design : List Record) (u : ℕ) (n : SpecialNet) → special_net_pieces_by (special_wire_rules library design u) n ≡ special_net_pieces library design u n
