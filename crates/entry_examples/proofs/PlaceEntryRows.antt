-- Worked rows of the lines on places, vias and rules, by computing.
use Rattle.std.proofs.Common.{◌≡◌, List, ℕ, [], ◌∷◌, None, refl, codes}
use Rattle.lef_grammar.specs.Definitions.{Macro, Pin, listed}
use Rattle.lef_grammar.specs.Library.{empty_library}
use Rattle.entry_rules.specs.Unchecked.{unchecked_in_library}
use Rattle.entry_examples.proofs.Computing.{def_lines}
use Rattle.entry_examples.proofs.EntryTexts.{unknown_in, off_layer_in, unchecked_in, HasNoLine}

-- the layers of a via's shapes, and those of its first LAYERS
abbrev vias_on_layers : List ℕ
vias_on_layers = codes "VIAS 2 ;\n- v + LAYERS x met1 y + RECT met1 ( 0 0 ) ( 1 1 ) + LAYERS z z z ;\n- g + VIARULE q + RECT k ( 0 0 ) ( 1 1 ) ;\nEND VIAS\n"

layers_of_vias : (unknown_in vias_on_layers ≡ codes "unknown LAYER x VIAS v" ∷ codes "unknown LAYER y VIAS v" ∷ codes "unknown LAYER k VIAS g" ∷ []) × (unchecked_in vias_on_layers ≡ [])
unfolding def_lines
layers_of_vias = (refl, refl)

-- a polygon of a pin by its layer, and the first NET
abbrev pins : List ℕ
pins = codes "PINS 2 ;\n- p + POLYGON met9 x ;\n- q + NET n + NET m + LAYER met1 ( 0 0 ) ( 1 1 ) + PORT + VIA M2 ( 0 0 ) + USE POWER ;\nEND PINS\n"

shapes_of_pins : (unknown_in pins ≡ codes "unknown LAYER met9 PINS p" ∷ codes "unknown NET n PINS q" ∷ codes "unknown VIA M2 PINS q" ∷ []) × (unchecked_in pins ≡ codes "unchecked PINS p 1" ∷ [])
    × (off_layer_in pins ≡ [])
unfolding def_lines
shapes_of_pins = (refl, refl, refl)

-- a blockage that is kept, one with a polygon, and one on a layer
abbrev blockages : List ℕ
blockages = codes "BLOCKAGES 3 ;\n- ;\n- PLACEMENT + SOFT POLYGON ( 0 0 ) ( 1 1 ) ( 0 1 ) ;\n- LAYER met9 + SLOTS RECT ( 0 0 ) ( 1 1 ) ;\n- LAYER met8 ;\nEND BLOCKAGES\n"

shapes_of_blockages : (unchecked_in blockages ≡ codes "unchecked BLOCKAGES - 1" ∷ codes "unchecked BLOCKAGES - 1" ∷ codes "unchecked BLOCKAGES - 1" ∷ []) × (unknown_in blockages ≡ codes "unknown LAYER met9 BLOCKAGES -" ∷ [])
unfolding def_lines
shapes_of_blockages = (refl, refl)

-- the macro of a component and its first REGION, and a group's first REGION of one name
abbrev regions : List ℕ
regions =
    codes "REGIONS 1 ;\n- F ( 0 0 ) ( 1 1 ) ;\nEND REGIONS\nCOMPONENTS 2 ;\n- u1 INV + REGION F + REGION G ;\n- u2 core + REGION G ;\nEND COMPONENTS\nGROUPS 2 ;\n- g u* + REGION ( 0 0 ) ( 1 1 ) + REGION G + REGION H ;\n- h u* + REGION F ;\nEND GROUPS\nFILLS 1 ;\n- LAYER met9 ;\nEND FILLS\n"

regions_that_are_not_known : (unknown_in regions ≡ codes "unknown MACRO core COMPONENTS u2" ∷ codes "unknown REGION G COMPONENTS u2" ∷ codes "unknown REGION G GROUPS g" ∷ []) × (unchecked_in regions ≡ [])
unfolding def_lines
regions_that_are_not_known = (refl, refl)

-- the site of a row, and the area of the die
abbrev floor : List ℕ
floor = codes "DIEAREA ( 0 0 ) ( 9 0 ) ( 9 9 ) ;\nROW r0 core 0 0 N ;\nROW r1 edge 0 9 FS ;\n"

sites_of_rows : (unknown_in floor ≡ codes "unknown SITE edge ROWS r1" ∷ []) × (unchecked_in floor ≡ codes "unchecked DIEAREA - 1" ∷ []) × HasNoLine (codes "DIEAREA ( 0 0 ) ( 9 9 ) ;\n")
unfolding def_lines
sites_of_rows = (refl, refl, (refl, refl, refl))

-- the first LAYER clause of each layer of a rule; the rule is known by its net
abbrev rules : List ℕ
rules = codes "NONDEFAULTRULES 1 ;\n- w + LAYER met9 WIDTH 3 + LAYER met1 WIDTH 3 + LAYER met9 WIDTH 4 + HARDSPACING ;\nEND NONDEFAULTRULES\nNETS 1 ;\n- n + NONDEFAULTRULE w ;\nEND NETS\n"

layers_of_rules : unknown_in rules ≡ codes "unknown LAYER met9 NONDEFAULTRULES w" ∷ []
unfolding def_lines
layers_of_rules = refl

-- what vias of DEF join: the layers of one that is generated, of one by its rectangles, and of one with three layers; a via
-- of this name in LEF is passed over
abbrev vias_in_a_net : List ℕ
vias_in_a_net =
    codes "VIAS 3 ;\n- g + VIARULE q + LAYERS met1 via1 met2 + RECT via1 ( 0 0 ) ( 1 1 ) ;\n- s + RECT met2 ( 0 0 ) ( 1 1 ) + RECT met1 ( 0 0 ) ( 1 1 ) + RECT met2 ( 1 1 ) ( 2 2 ) ;\n- M1M2 + RECT met1 ( 0 0 ) ( 1 1 ) + POLYGON via1 ( 0 0 ) ( 1 1 ) ( 0 1 ) ;\nEND VIAS\nNETS 1 ;\n- n + ROUTED met1 ( 0 0 ) g s g NEW met1 ( 0 0 ) M1M2 g NEW met2 ( 0 0 ) M1M2 s ;\nEND NETS\n"

vias_of_def : (off_layer_in vias_in_a_net ≡ codes "vialayer M1M2 NETS n" ∷ codes "vialayer M1M2 NETS n" ∷ []) × (unchecked_in vias_in_a_net ≡ codes "unchecked VIAS M1M2 1" ∷ [])
unfolding def_lines
vias_of_def = (refl, refl)

abbrev pin_of : List ℕ → ℕ → Pin
pin_of name unchecked = record { name = name; shapes = []; unchecked = unchecked }

abbrev macro_of : List ℕ → List Pin → Macro
macro_of name pins = record { name = name; class = None; size = None; origin = None; sites = []; pins = pins }

-- of a library each macro and via with a part whose shape isn't checked
unchecked_of_a_library : unchecked_in_library (record empty_library {
  macros = macro_of (codes "m") (pin_of (codes "A") 2 ∷ pin_of (codes "B") 1 ∷ []) ∷ macro_of (codes "k") (pin_of (codes "A") 0 ∷ []) ∷ [];
  vias = record { name = codes "v"; body = listed []; unchecked = 4 } ∷ record { name = codes "w"; body = listed []; unchecked = 0 } ∷ [];
}) ≡ codes "unchecked MACRO m 3" ∷ codes "unchecked VIA v 4" ∷ []
unfolding def_lines
unchecked_of_a_library = refl
