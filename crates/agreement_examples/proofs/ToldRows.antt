-- Worked rows of what tells a net, and of which nets statements touch, by computing.
use Rattle.std.proofs.Common.{◌≡◌, true, false, List, [], ◌∷◌, map, refl, codes}
use Rattle.std.specs.List.{filter_map}
use Rattle.std.specs.Str.{bytes_eq}
use Rattle.def_grammar.specs.Records.{Record, read_def}
use Rattle.def_grammar.specs.Terminals.{Terminal}
use Rattle.connection_rules.specs.NetParts.{Net}
use Rattle.entry_examples.proofs.Computing.{def_lines}
use Rattle.net_laws.specs.NetExchanges.{nets_where, touches}
use Rattle.net_laws.specs.NetsTold.{is_common, is_of_net, net_of_record, terminals_in}
use Rattle.net_laws.specs.Within.{a_component, a_pin, is_within, neither}
use Rattle.agreement_examples.proofs.PartRows.{records_of, square_library}

-- a statement of each kind that nets have to do with, and others; the net n has an entry in each of its sections
abbrev design : List Record
design =
    records_of (read_def (codes "UNITS DISTANCE MICRONS 1 ;\nDIEAREA ( 0 0 ) ( 9 9 ) ;\nVIAS 1 ;\n- v + RECT met1 ( 0 0 ) ( 1 1 ) ;\nEND VIAS\nNONDEFAULTRULES 1 ;\n- w + LAYER met1 WIDTH 3 ;\nEND NONDEFAULTRULES\nCOMPONENTS 3 ;\n- c M ;\n- d M ;\n- PIN2 M ;\nEND COMPONENTS\nPINS 1 ;\n- p + NET n ;\nEND PINS\nBLOCKAGES 1 ;\n- LAYER met1 RECT ( 4 4 ) ( 9 9 ) ;\nEND BLOCKAGES\nSPECIALNETS 1 ;\n- n ( * Z ) + USE POWER ;\nEND SPECIALNETS\nNETS 4 ;\n- m ( d A ) ( d B + SYNTHESIZED ) ( VPIN x ) ;\n- MUSTJOIN ( c A ) ;\n- n ( c A ) ( PIN p ) ;\n- o + SUBNET n ( c A ) ;\nEND NETS\nEND DESIGN\n"))

-- UNITS, the via and the rule; not the die, no pin, no component, no blockage, no net, no header and no end
of_each_kind : map is_common design
    ≡ true ∷ false ∷ false ∷ true ∷ false ∷ false ∷ true ∷ false ∷ false ∷ false ∷ false ∷ false ∷ false ∷ false ∷ false ∷ false ∷ false ∷ false ∷ false ∷ false ∷ false ∷ false ∷ false ∷ false ∷ false ∷ false ∷ false ∷ false ∷ false ∷ []
unfolding def_lines
of_each_kind = refl

-- the entries of a net: neither the one of MUSTJOIN, nor one of which the net is a subnet
of_a_net : map (is_of_net (codes "n")) design
    ≡ false ∷ false ∷ false ∷ false ∷ false ∷ false ∷ false ∷ false ∷ false ∷ false ∷ false ∷ false ∷ false ∷ false ∷ false ∷ false ∷ false ∷ false ∷ false ∷ false ∷ true ∷ false ∷ false ∷ false ∷ false ∷ true ∷ false ∷ false ∷ false ∷ []
unfolding def_lines
of_a_net = refl

each_name : filter_map net_of_record design ≡ codes "n" ∷ codes "m" ∷ codes "n" ∷ codes "o" ∷ []
unfolding def_lines
each_name = refl

-- the terminals of both entries, in the order of the text; of a subnet there are none
listed : (map (λ (t : Terminal). t.owner) (terminals_in design (codes "n")) ≡ codes "*" ∷ codes "c" ∷ codes "PIN" ∷ [])
    × (map (λ (t : Terminal). t.owner) (terminals_in design (codes "m")) ≡ codes "d" ∷ codes "d" ∷ codes "VPIN" ∷ [])
    × (terminals_in design (codes "o") ≡ [])
unfolding def_lines
listed = (refl, refl, refl)

-- by a star all components touch a net, also those that another terminal of it names; so does the pin that it lists
all_touch : map (touches design (codes "n")) design
    ≡ false ∷ false ∷ false ∷ false ∷ false ∷ false ∷ false ∷ false ∷ false ∷ true ∷ true ∷ true ∷ false ∷ false ∷ true ∷ false ∷ false ∷ false ∷ false ∷ false ∷ true ∷ false ∷ false ∷ false ∷ false ∷ true ∷ false ∷ false ∷ false ∷ []
unfolding def_lines
all_touch = refl

-- else those that a terminal names
one_touches : map (touches design (codes "m")) design
    ≡ false ∷ false ∷ false ∷ false ∷ false ∷ false ∷ false ∷ false ∷ false ∷ false ∷ true ∷ false ∷ false ∷ false ∷ false ∷ false ∷ false ∷ false ∷ false ∷ false ∷ false ∷ false ∷ false ∷ true ∷ false ∷ false ∷ false ∷ false ∷ false ∷ []
unfolding def_lines
one_touches = refl

none_touches : map (touches design (codes "o")) design
    ≡ false ∷ false ∷ false ∷ false ∷ false ∷ false ∷ false ∷ false ∷ false ∷ false ∷ false ∷ false ∷ false ∷ false ∷ false ∷ false ∷ false ∷ false ∷ false ∷ false ∷ false ∷ false ∷ false ∷ false ∷ false ∷ false ∷ true ∷ false ∷ false ∷ []
unfolding def_lines
none_touches = refl

-- the nets whose names pass, each once
some_nets : (map (λ (n : Net). n.name) (nets_where square_library design 1 (λ name. bytes_eq name (codes "n"))) ≡ codes "n" ∷ [])
    × (map (λ (n : Net). n.name) (nets_where square_library design 1 (λ name. true)) ≡ codes "n" ∷ codes "m" ∷ codes "o" ∷ [])
unfolding def_lines
some_nets = (refl, refl)

-- entries of the net m, the component d, and what no net is made of, as a header, a blockage or an entry of MUSTJOIN
within_one : map (is_within (codes "m" ∷ []) (a_component (codes "d"))) design
    ≡ false ∷ true ∷ true ∷ false ∷ true ∷ true ∷ false ∷ true ∷ true ∷ false ∷ true ∷ false ∷ true ∷ true ∷ false ∷ true ∷ true ∷ true ∷ true ∷ true ∷ false ∷ true ∷ true ∷ true ∷ true ∷ false ∷ false ∷ true ∷ true ∷ []
unfolding def_lines
within_one = refl

-- of two nets, and of no component and no pin
within_two : map (is_within (codes "o" ∷ codes "n" ∷ []) neither) design
    ≡ false ∷ true ∷ true ∷ false ∷ true ∷ true ∷ false ∷ true ∷ true ∷ false ∷ false ∷ false ∷ true ∷ true ∷ false ∷ true ∷ true ∷ true ∷ true ∷ true ∷ true ∷ true ∷ true ∷ false ∷ true ∷ true ∷ true ∷ true ∷ true ∷ []
unfolding def_lines
within_two = refl

-- entries of the net n, and its pin; not where the pin names another net than those
within_pin : (map (is_within (codes "n" ∷ []) (a_pin (codes "p"))) design
    ≡ false ∷ true ∷ true ∷ false ∷ true ∷ true ∷ false ∷ true ∷ true ∷ false ∷ false ∷ false ∷ true ∷ true ∷ true ∷ true ∷ true ∷ true ∷ true ∷ true ∷ true ∷ true ∷ true ∷ false ∷ true ∷ true ∷ false ∷ true ∷ true ∷ [])
    × (map (is_within (codes "m" ∷ []) (a_pin (codes "p"))) design
    ≡ false ∷ true ∷ true ∷ false ∷ true ∷ true ∷ false ∷ true ∷ true ∷ false ∷ false ∷ false ∷ true ∷ true ∷ false ∷ true ∷ true ∷ true ∷ true ∷ true ∷ false ∷ true ∷ true ∷ true ∷ true ∷ false ∷ false ∷ true ∷ true ∷ [])
unfolding def_lines
within_pin = (refl, refl)
