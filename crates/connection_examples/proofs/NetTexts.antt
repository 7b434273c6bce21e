-- A small library and small DEF texts, whose lines on nets the examples compute.
use Rattle.std.specs.Prelude.{ℕ, List, [], ◌∷◌, ◌++◌, None, Some, Result, Ok, Err, codes, pos, neg_ℤ}
use Rattle.design_model.specs.declared.fault.Fault.{Fault}
use Rattle.design_model.specs.Units.{Distance}
use Rattle.lef_grammar.specs.Definitions.{Distances, Layer, LayerKind, LayerShapes, Macro, Pin, cut, listed, other, routing}
use Rattle.lef_grammar.specs.Library.{Library}
use Rattle.lef_grammar.specs.Measures.{shapes_in}
use Rattle.def_grammar.specs.Records.{Record, read_def}
use Rattle.wire_rules.specs.Paths.{line_of, pieces_from}
use Rattle.shape_rules.specs.Classes.{all_joined, distinct, numbers}
use Rattle.connection_rules.specs.PinShapes.{is_checked, ports}
use Rattle.connection_rules.specs.Terminals.{each_once}
use Rattle.connection_rules.specs.NetParts.{drawn}
use Rattle.connection_rules.specs.NetLines.{layer_name, net_lines}
use Rattle.entry_examples.proofs.Computing.{def_lines}

-- what the lines on nets are computed with
unfoldable pub net_words : Unit {0}
unfolding def_lines shapes_in pieces_from line_of is_checked ports each_once drawn all_joined numbers distinct layer_name
net_words = tt

-- hundredths of a micron, above 0 and below
abbrev pub up : ℕ → Distance
up n = record { value = pos n; places = 2 }

abbrev pub down : ℕ → Distance
down n = record { value = neg_ℤ (pos n); places = 2 }

abbrev layer_of : List ℕ → LayerKind → Layer
layer_of name kind = record { name = name; kind = kind; width = Some (up 14); spacing = None }

abbrev pub pin_of : List ℕ → List ℕ → (Distances × Distances) → Pin
pin_of name layer r = record { name = name; shapes = record { layer = layer; rectangles = r ∷ [] } ∷ []; unchecked = 0 }

abbrev square : List ℕ → ℕ → LayerShapes
square layer n = record { layer = layer; rectangles = ((down n, down n), (up n, up n)) ∷ [] }

-- 920 by 2720 database units, with pins A and Y and a supply VDD on met1, and a pin W on a layer that connects nothing
abbrev inverter : Macro
inverter = record {
  name = codes "INV";
  class = Some (codes "CORE");
  size = Some (up 92, up 272);
  origin = None;
  sites = codes "core" ∷ [];
  pins =
      pin_of (codes "A") (codes "met1") ((up 10, up 100), (up 30, up 120)) ∷ pin_of (codes "Y") (codes "met1") ((up 60, up 100), (up 80, up 120))
      ∷ pin_of (codes "VDD") (codes "met1") ((up 0, up 248), (up 92, up 272)) ∷ pin_of (codes "W") (codes "nwell") ((up 0, up 0), (up 92, up 272)) ∷ [];
}

-- layers nwell of no such TYPE, met1 and met2 to route on and via1 between them, and the via M1M2 that joins them
abbrev pub library : Library
library = record {
  layers = layer_of (codes "nwell") other ∷ layer_of (codes "met1") routing ∷ layer_of (codes "via1") cut ∷ layer_of (codes "met2") routing ∷ [];
  sites = [];
  vias = record { name = codes "M1M2"; body = listed (square (codes "met1") 10 ∷ square (codes "via1") 5 ∷ square (codes "met2") 10 ∷ []); unchecked = 0 } ∷ [];
  rules = [];
  macros = inverter ∷ [];
}

abbrev lines_if : Result (List Record) Fault → List (List ℕ)
lines_if (Ok design) = net_lines library design 1000
lines_if (Err fault) = codes "no design" ∷ []

-- the lines of a text of UNITS, these statements, and END DESIGN
abbrev pub lines_in : List ℕ → List (List ℕ)
lines_in statements = lines_if (read_def (codes "UNITS DISTANCE MICRONS 1000 ;\n" ++ statements ++ codes "END DESIGN\n"))

-- those of two inverters side by side on their supply, and these entries of NETS
abbrev pub lines_of_nets : List ℕ → List (List ℕ)
lines_of_nets entries =
    lines_in (codes "COMPONENTS 2 ;\n- u1 INV + PLACED ( 0 0 ) N ;\n- u2 INV + FIXED ( 920 0 ) N ;\nEND COMPONENTS\nSPECIALNETS 1 ;\n- VDD ( * VDD ) + USE POWER ;\nEND SPECIALNETS\nNETS 1 ;\n" ++ entries ++ codes "END NETS\n")
