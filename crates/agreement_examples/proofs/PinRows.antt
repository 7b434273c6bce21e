-- Worked rows of which pins of a design are of which nets, and of what an edit of a pin is within, by computing.
use Rattle.std.proofs.Common.{◌≡◌, ℕ, Bool, true, false, List, [], ◌∷◌, ◌++◌, Option, Some, None, map, refl, codes}
use Rattle.std.specs.List.{filter_map}
use Rattle.def_grammar.specs.Records as records
use Rattle.def_grammar.specs.Records.{Record, entry, read_def}
use Rattle.entry_examples.proofs.Computing.{def_lines}
use Rattle.net_laws.specs.NetExchanges.{touches}
use Rattle.net_laws.specs.NetsTold.{lists_pin, pins_of_net, terminals_in}
use Rattle.net_laws.specs.OneNet.{is_of_pins}
use Rattle.net_laws.specs.Within.{Listed, a_component, a_pin, finds_it, is_within, neither}
use Rattle.agreement_examples.proofs.PartRows.{records_of}

-- components of which one is named PIN, and two as pins of the design; a pin that two nets list, one that names a net that doesn't list it,
-- one that names two nets, and one that names a net without an entry; a star with the name of a pin; and a virtual pin
abbrev design : List Record
design =
    records_of (read_def (codes "UNITS DISTANCE MICRONS 1 ;\nCOMPONENTS 3 ;\n- c M ;\n- PIN M ;\n- Z M ;\nEND COMPONENTS\nPINS 6 ;\n- p ;\n- q + NET o ;\n- c + NET n ;\n- Z ;\n- r + NET m + NET n ;\n- t + NET x ;\nEND PINS\nSPECIALNETS 1 ;\n- s ( * Z ) ( * p ) ;\nEND SPECIALNETS\nNETS 4 ;\n- n ( PIN p ) ( c A ) ;\n- m ( PIN p ) ( VPIN q ) ;\n- o ( Z Z ) ;\n- MUSTJOIN ( PIN Z ) ;\nEND NETS\nEND DESIGN\n"))

abbrev pin_name : Record → Option (List ℕ)
pin_name (entry (records.pin p)) = Some p.name
pin_name _ = None

abbrev pins_of : List Record → List ℕ → List (List ℕ)
pins_of all net = filter_map pin_name (pins_of_net all net)

-- by a terminal and by a NET, of which the first counts; none by a star, a virtual pin, a component's name or an entry of MUSTJOIN
of_nets : (pins_of design (codes "n") ≡ codes "p" ∷ codes "c" ∷ []) × (pins_of design (codes "m") ≡ codes "p" ∷ codes "r" ∷ []) × (pins_of design (codes "o") ≡ codes "q" ∷ [])
    × (pins_of design (codes "s") ≡ []) × (pins_of design (codes "x") ≡ codes "t" ∷ []) × (pins_of design (codes "y") ≡ [])
unfolding def_lines
of_nets = (refl, refl, refl, refl, refl, refl)

-- a name that stands twice is there twice
of_twice : pins_of (design ++ design) (codes "n") ≡ codes "p" ∷ codes "c" ∷ codes "p" ∷ codes "c" ∷ []
unfolding def_lines
of_twice = refl

-- a terminal lists a pin of the design by PIN alone
listed : (map (lists_pin (codes "p")) (terminals_in design (codes "n")) ≡ true ∷ false ∷ []) × (map (lists_pin (codes "A")) (terminals_in design (codes "n")) ≡ false ∷ false ∷ [])
    × (map (lists_pin (codes "q")) (terminals_in design (codes "m")) ≡ false ∷ false ∷ []) × (map (lists_pin (codes "Z")) (terminals_in design (codes "s")) ≡ false ∷ false ∷ [])
    × (map (lists_pin (codes "Z")) (terminals_in design (codes "o")) ≡ false ∷ [])
unfolding def_lines
listed = (refl, refl, refl, refl, refl)

-- the component and the pin that it lists, the pin that names it, and the entry; and the component that is named PIN
n_touched : map (touches design (codes "n")) design
    ≡ false ∷ false ∷ true ∷ true ∷ false ∷ false ∷ false ∷ true ∷ false ∷ true ∷ false ∷ false ∷ false ∷ false ∷ false ∷ false ∷ false ∷ false ∷ true ∷ false ∷ false ∷ false ∷ false ∷ false ∷ []
unfolding def_lines
n_touched = refl

-- a pin that names it, and no pin that has the name of one of a component
o_touched : map (touches design (codes "o")) design
    ≡ false ∷ false ∷ false ∷ false ∷ true ∷ false ∷ false ∷ false ∷ true ∷ false ∷ false ∷ false ∷ false ∷ false ∷ false ∷ false ∷ false ∷ false ∷ false ∷ false ∷ true ∷ false ∷ false ∷ false ∷ []
unfolding def_lines
o_touched = refl

-- by a star all components, and no pin
s_touched : map (touches design (codes "s")) design
    ≡ false ∷ false ∷ true ∷ true ∷ true ∷ false ∷ false ∷ false ∷ false ∷ false ∷ false ∷ false ∷ false ∷ false ∷ false ∷ true ∷ false ∷ false ∷ false ∷ false ∷ false ∷ false ∷ false ∷ false ∷ []
unfolding def_lines
s_touched = refl

abbrev pins : List Record → List Record
pins (a ∷ b ∷ c ∷ d ∷ e ∷ f ∷ g ∷ p ∷ q ∷ r ∷ s ∷ t ∷ u ∷ rest) = p ∷ q ∷ r ∷ s ∷ t ∷ u ∷ []
pins _ = []

abbrev within : List (List ℕ) → Listed → List Bool
within nets what = map (is_within nets what) (pins design)

-- the pin alone, where it names none but these nets by its first NET; a component of its name isn't it
pins_within : (within [] (a_pin (codes "p")) ≡ true ∷ false ∷ false ∷ false ∷ false ∷ false ∷ []) × (within [] (a_pin (codes "q")) ≡ false ∷ false ∷ false ∷ false ∷ false ∷ false ∷ [])
    × (within (codes "n" ∷ []) (a_pin (codes "r")) ≡ false ∷ false ∷ false ∷ false ∷ false ∷ false ∷ [])
    × (within (codes "n" ∷ codes "m" ∷ []) (a_pin (codes "r")) ≡ false ∷ false ∷ false ∷ false ∷ true ∷ false ∷ [])
    × (within (codes "x" ∷ []) (a_pin (codes "t")) ≡ false ∷ false ∷ false ∷ false ∷ false ∷ true ∷ [])
    × (within (codes "n" ∷ []) (a_component (codes "c")) ≡ false ∷ false ∷ false ∷ false ∷ false ∷ false ∷ [])
    × (within (codes "n" ∷ []) neither ≡ false ∷ false ∷ false ∷ false ∷ false ∷ false ∷ [])
unfolding def_lines
pins_within = (refl, refl, refl, refl, refl, refl, refl)

-- a component named as the pin isn't within, and the pin isn't for an edit of the component
by_kind : (map (is_within (codes "n" ∷ []) (a_pin (codes "c"))) design
    ≡ false ∷ true ∷ false ∷ false ∷ false ∷ true ∷ true ∷ false ∷ false ∷ true ∷ false ∷ false ∷ false ∷ true ∷ true ∷ false ∷ true ∷ true ∷ true ∷ false ∷ false ∷ true ∷ true ∷ true ∷ [])
    × (map (is_within (codes "n" ∷ []) (a_component (codes "c"))) design
    ≡ false ∷ true ∷ true ∷ false ∷ false ∷ true ∷ true ∷ false ∷ false ∷ false ∷ false ∷ false ∷ false ∷ true ∷ true ∷ false ∷ true ∷ true ∷ true ∷ false ∷ false ∷ true ∷ true ∷ true ∷ [])
unfolding def_lines
by_kind = (refl, refl)

abbrev found : Listed → List ℕ → List Bool
found what net = map (finds_it what) (terminals_in design net)

-- which terminals find the pin, or the component; those of pins of the design stand for a component named PIN, too
finding : (found (a_pin (codes "p")) (codes "n") ≡ true ∷ false ∷ []) × (found (a_component (codes "c")) (codes "n") ≡ false ∷ true ∷ []) × (found (a_component (codes "PIN")) (codes "n") ≡ true ∷ false ∷ [])
    × (found (a_pin (codes "c")) (codes "n") ≡ false ∷ false ∷ []) × (found neither (codes "n") ≡ false ∷ false ∷ []) × (found (a_pin (codes "Z")) (codes "s") ≡ false ∷ false ∷ [])
    × (found (a_component (codes "Z")) (codes "s") ≡ true ∷ true ∷ [])
unfolding def_lines
finding = (refl, refl, refl, refl, refl, refl, refl)

all_pins : map is_of_pins design
    ≡ false ∷ false ∷ false ∷ false ∷ false ∷ false ∷ false ∷ true ∷ true ∷ true ∷ true ∷ true ∷ true ∷ false ∷ false ∷ false ∷ false ∷ false ∷ false ∷ false ∷ false ∷ false ∷ false ∷ false ∷ []
unfolding def_lines
all_pins = refl
