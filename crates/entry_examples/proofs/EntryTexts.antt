-- A small library and small DEF texts, whose lines the rows compute.
use Rattle.std.specs.Prelude.{ℕ, List, [], ◌∷◌, ◌++◌, None, Result, Ok, Err, codes}
use Rattle.std.proofs.Common.{◌≡◌}
use Rattle.design_model.specs.declared.fault.Fault.{Fault}
use Rattle.lef_grammar.specs.Definitions.{Layer, LayerKind, LayerShapes, Pin, routing, cut, listed}
use Rattle.lef_grammar.specs.Library.{Library}
use Rattle.def_grammar.specs.Records.{Record, read_def}
use Rattle.entry_rules.specs.OffLayer.{off_layer_lines}
use Rattle.entry_rules.specs.Unchecked.{unchecked_lines}
use Rattle.entry_rules.specs.Unknown.{unknown_lines}

abbrev layer_of : List ℕ → LayerKind → Layer
layer_of name kind = record { name = name; kind = kind; width = None; spacing = None }

abbrev shapes_on : List ℕ → LayerShapes
shapes_on layer = record { layer = layer; rectangles = [] }

abbrev pin_of : List ℕ → Pin
pin_of name = record { name = name; shapes = []; unchecked = 0 }

-- layers met1 and met2 to route on, via1 between them, the via M1M2 that joins them, the site core, and the macro INV with
-- pins A and Y
abbrev pub library : Library
library = record {
  layers = layer_of (codes "met1") routing ∷ layer_of (codes "via1") cut ∷ layer_of (codes "met2") routing ∷ [];
  sites = record { name = codes "core"; size = None } ∷ [];
  vias = record { name = codes "M1M2"; body = listed (shapes_on (codes "met1") ∷ shapes_on (codes "via1") ∷ shapes_on (codes "met2") ∷ []); unchecked = 0 } ∷ [];
  rules = [];
  macros = record { name = codes "INV"; class = None; size = None; origin = None; sites = []; pins = pin_of (codes "A") ∷ pin_of (codes "Y") ∷ [] } ∷ [];
}

-- the lines of a text that reads as this
abbrev lines_if : Result (List Record) Fault → (List Record → List (List ℕ)) → List (List ℕ)
lines_if (Ok design) lines = lines design
lines_if (Err fault) lines = codes "no design" ∷ []

-- a text of UNITS, these statements, and END DESIGN
abbrev text_of : List ℕ → List ℕ
text_of statements = codes "UNITS DISTANCE MICRONS 1000 ;\n" ++ statements ++ codes "END DESIGN\n"

-- its lines of each kind
abbrev pub unknown_in : List ℕ → List (List ℕ)
unknown_in statements = lines_if (read_def (text_of statements)) (unknown_lines library)

abbrev pub off_layer_in : List ℕ → List (List ℕ)
off_layer_in statements = lines_if (read_def (text_of statements)) (off_layer_lines library)

abbrev pub unchecked_in : List ℕ → List (List ℕ)
unchecked_in statements = lines_if (read_def (text_of statements)) (unchecked_lines library)

-- it has no line
abbrev pub HasNoLine : List ℕ → Type 0
HasNoLine statements = (unknown_in statements ≡ []) × (off_layer_in statements ≡ []) × (unchecked_in statements ≡ [])
