-- Worked examples of the pins of nets, by computing.
use Rattle.std.specs.Prelude.{ℕ, List, [], ◌∷◌, ◌++◌, codes}
use Rattle.std.proofs.Common.{◌≡◌, refl}
use Rattle.connection_examples.proofs.NetTexts.{lines_in, net_words}

-- a placed inverter and one that isn't, and a pin of the design with three ports, the last of which isn't placed
abbrev with_a_pin : List ℕ → List ℕ
with_a_pin entries =
    codes "COMPONENTS 2 ;\n- u1 INV + PLACED ( 0 0 ) N ;\n- u2 INV ;\nEND COMPONENTS\nPINS 1 ;\n- p + NET n1 + LAYER met2 ( -10 -10 ) ( 10 10 ) + PLACED ( 900 2000 ) W + PORT + LAYER met1 ( 0 0 ) ( 20 20 ) + FIXED ( 5000 0 ) N + PORT + LAYER met1 ( 0 0 ) ( 9 9 ) ;\nEND PINS\nNETS 2 ;\n"
    ++ entries ++ codes "END NETS\n"

-- a pin in two nets is a short of them with itself; a pin that isn't placed counts as a class of its own; one listed twice is one
in_two_nets : lines_in (with_a_pin (codes "- n1 ( u1 Y ) ( u1 Y ) + ROUTED met1 ( 700 1100 ) ( 900 * ) M1M2 ( * 2000 ) ;\n- n2 ( u1 A ) ( u2 A ) ( PIN p ) ( u1 Y ) ;\n"))
    ≡ codes "short n1 n2 met1 600 1000 800 1200" ∷ codes "short n1 n2 met2 890 1990 910 2010" ∷ codes "short n1 n2 met1 5000 0 5020 20"
    ∷ codes "short n1 n2 met1 630 1030 800 1170" ∷ codes "short n1 n2 met1 800 1000 800 1200" ∷ codes "short n1 n2 met2 890 1990 910 2010" ∷ codes "unrouted n2 4" ∷ []
unfolding net_words
in_two_nets = refl

-- a star stands for all components that have the pin, and is one with a component that is listed too; a virtual pin for none
by_star : lines_in (with_a_pin (codes "- n1 ( u1 Y ) + ROUTED met1 ( 700 1100 ) ( 900 * ) NEW met2 ( 900 1100 ) ( * 2000 ) ;\n- n2 ( u1 A ) ( * A ) ( VPIN x ) ( * B ) + ROUTED met1 ( 0 0 ) ( 5 5 ) ;\n"))
    ≡ codes "open n1 2" ∷ codes "unrouted n2 2" ∷ []
unfolding net_words
by_star = refl

-- the ports of a pin are one part, wherever they lie; a port before the first PORT has a place of its own
ports_are_one : lines_in (with_a_pin (codes "- n1 + ROUTED met2 ( 900 2000 ) ( 900 2100 ) NEW met1 ( 5020 20 ) ( 6000 * ) ;\n")) ≡ []
unfolding net_words
ports_are_one = refl

-- a component that is placed with COVER has its shapes; one named PIN is reached by a star alone; a pin of a macro that isn't known is none
odd_components : lines_in (codes "COMPONENTS 3 ;\n- u1 INV + COVER ( 0 0 ) N ;\n- PIN INV + PLACED ( 5000 0 ) N ;\n- u3 NONE + PLACED ( 0 0 ) N ;\nEND COMPONENTS\nNETS 2 ;\n- a ( u1 Y ) ( PIN Y ) ( u3 Y ) ( u9 Y ) + ROUTED met1 ( 700 1100 ) ( 5700 * ) ;\n- b ( * A ) ;\nEND NETS\n") ≡ codes "short a b met1 5100 1030 5300 1170" ∷ codes "unrouted b 2" ∷ []
unfolding net_words
odd_components = refl

-- shapes of a turned component, the lower left corner of whose box is at its point: FS flips about the x axis, W turns by a quarter
abbrev turned : List ℕ → List ℕ → List (List ℕ)
turned orient rectangles =
    lines_in (codes "COMPONENTS 1 ;\n- u1 INV + PLACED ( 0 0 ) " ++ orient ++ codes " ;\nEND COMPONENTS\nNETS 1 ;\n- a ( u1 Y ) ;\nEND NETS\nSPECIALNETS 1 ;\n- c " ++ rectangles ++ codes " ;\nEND SPECIALNETS\n")

turned_components : (turned (codes "FS") (codes "+ RECT met1 ( 600 1720 ) ( 600 1720 ) + RECT met1 ( 600 1519 ) ( 600 1519 )") ≡ codes "short a c met1 600 1720 600 1720" ∷ codes "floating c 2" ∷ [])
    × (turned (codes "W") (codes "+ RECT met1 ( 1520 600 ) ( 1520 600 ) + RECT met1 ( 1720 801 ) ( 1720 801 )") ≡ codes "short a c met1 1520 600 1520 600" ∷ codes "floating c 2" ∷ [])
unfolding net_words
turned_components = (refl, refl)

-- a pin of the design with these clauses
abbrev pin_with : List ℕ → List ℕ
pin_with clauses = codes "PINS 1 ;\n- p" ++ clauses ++ codes " ;\nEND PINS\n"

-- a port is turned about the pin's origin, and then moved there; so is a via in it, which stands at a point of the port
abbrev beside : List ℕ → List ℕ → List (List ℕ)
beside clauses rectangles = lines_in (pin_with clauses ++ codes "NETS 1 ;\n- a ;\nEND NETS\nSPECIALNETS 1 ;\n- c " ++ rectangles ++ codes " ;\nEND SPECIALNETS\n")

turned_ports : (beside (codes " + NET a + LAYER met1 ( 0 0 ) ( 100 10 ) + PLACED ( 1000 1000 ) W") (codes "+ RECT met1 ( 990 1100 ) ( 990 1100 ) + RECT met1 ( 1001 1010 ) ( 1100 1010 )") ≡ codes "short a c met1 990 1100 990 1100" ∷ codes "floating c 2" ∷ [])
    × (beside (codes " + NET a + VIA M1M2 ( 50 300 ) + PLACED ( 1000 0 ) W") (codes "+ RECT met1 ( 800 150 ) ( 800 150 )") ≡ codes "short a c met1 800 150 800 150" ∷ codes "floating c 1" ∷ [])
unfolding net_words
turned_ports = (refl, refl)

-- a pin of the design counts where it has a shape, placed or not; one whose shapes connect nothing doesn't
abbrev with_an_inverter : List ℕ → List (List ℕ)
with_an_inverter clauses = lines_in (codes "COMPONENTS 1 ;\n- u1 INV + PLACED ( 0 0 ) N ;\nEND COMPONENTS\n" ++ pin_with clauses ++ codes "NETS 2 ;\n- a ( u1 Y ) ;\n- b ;\nEND NETS\n")

pins_that_count : (with_an_inverter (codes " + NET a + LAYER met1 ( 0 0 ) ( 1 1 )") ≡ codes "unrouted a 2" ∷ [])
    × (with_an_inverter (codes " + NET a + VIA M1M2 ( 0 0 )") ≡ codes "unrouted a 2" ∷ [])
    × (with_an_inverter (codes " + NET a + LAYER nwell ( 0 0 ) ( 1 1 ) + PLACED ( 5000 0 ) N") ≡ [])
    × (with_an_inverter (codes " + NET a + POLYGON met1 ( 0 0 ) ( 1 0 ) ( 1 1 ) + PLACED ( 5000 0 ) N") ≡ [])
unfolding net_words
pins_that_count = (refl, refl, refl, refl)

-- a pin is of the net of its first NET alone, whatever port that stands in
first_net_of_a_pin : (with_an_inverter (codes " + NET b + LAYER met1 ( 0 0 ) ( 1 1 ) + PLACED ( 5000 0 ) N + PORT + NET a") ≡ [])
    × (with_an_inverter (codes " + LAYER met1 ( 0 0 ) ( 1 1 ) + PLACED ( 5000 0 ) N + PORT + NET a + NET b") ≡ codes "unrouted a 2" ∷ [])
unfolding net_words
first_net_of_a_pin = (refl, refl)
