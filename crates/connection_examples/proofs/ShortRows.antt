-- Worked examples of shapes of two nets that touch, and of wires where routing is blocked, by computing.
use Rattle.std.specs.Prelude.{ℕ, List, [], ◌∷◌, ◌++◌, codes}
use Rattle.std.proofs.Common.{◌≡◌, refl}
use Rattle.connection_examples.proofs.NetTexts.{lines_in, lines_of_nets, net_words}

on_the_supply : lines_of_nets (codes "- n1 ( u1 Y ) ( u2 A ) + ROUTED met1 ( 700 1100 ) ( * 2480 ) ;\n") ≡ codes "short VDD n1 met1 630 2480 770 2550" ∷ codes "open n1 2" ∷ []
unfolding net_words
on_the_supply = refl

-- a net that has the other's name is that net
renamed_to_the_supply : lines_of_nets (codes "- VDD ( u1 Y ) ( u2 A ) + ROUTED met1 ( 700 1100 ) ( * 2480 ) ;\n") ≡ codes "open VDD 2" ∷ []
unfolding net_words
renamed_to_the_supply = refl

-- one line for each pair of shapes, the lesser name first; shapes that share an edge or a corner alone touch too
each_pair : lines_in (codes "SPECIALNETS 2 ;\n- b + RECT met1 ( 0 0 ) ( 10 10 ) + RECT met1 ( 10 0 ) ( 20 10 ) ;\n- a + RECT met1 ( 10 10 ) ( 20 20 ) + RECT met2 ( 0 0 ) ( 10 10 ) ;\nEND SPECIALNETS\n")
    ≡ codes "short a b met1 10 10 10 10" ∷ codes "short a b met1 10 10 20 10" ∷ codes "floating b 1" ∷ codes "floating a 2" ∷ []
unfolding net_words
each_pair = refl

-- a wire over a blocked rectangle, which spares nets of power alone; a rectangle that it shares an edge with alone isn't overlapped
abbrev blocked : List ℕ → List ℕ → List ℕ
blocked blockages with_use =
    codes "BLOCKAGES 2 ;\n- LAYER met1 + EXCEPTPGNET RECT ( 60 0 ) ( 70 100 ) ;\n- LAYER met1 RECT ( 155 0 ) ( 165 100 ) ;\n" ++ blockages
    ++ codes "END BLOCKAGES\nSPECIALNETS 1 ;\n- P + ROUTED met1 10 ( 50 55 ) ( 155 * )" ++ with_use ++ codes " ;\nEND SPECIALNETS\n"

wires_where_routing_is_blocked : (lines_in (blocked [] []) ≡ codes "routeblock P met1 60 50 70 60" ∷ codes "floating P 1" ∷ [])
    × (lines_in (blocked [] (codes " + USE POWER")) ≡ codes "floating P 1" ∷ [])
    × (lines_in (blocked [] (codes " + USE GROUND")) ≡ codes "floating P 1" ∷ [])
    × (lines_in (blocked [] (codes " + USE SIGNAL + USE POWER")) ≡ codes "routeblock P met1 60 50 70 60" ∷ codes "floating P 1" ∷ [])
unfolding net_words
wires_where_routing_is_blocked = (refl, refl, refl, refl)

-- what blocks placement, is soft, or names a layer that isn't known blocks no wire; each rectangle of an entry does by itself
blockages_that_count : (lines_in (blocked (codes "- PLACEMENT RECT ( 60 0 ) ( 70 100 ) ;\n- LAYER met1 + SOFT RECT ( 80 0 ) ( 90 100 ) ;\n- LAYER met9 RECT ( 80 0 ) ( 90 100 ) ;\n- LAYER met2 RECT ( 80 0 ) ( 90 100 ) ;\n") (codes " + USE POWER")) ≡ codes "floating P 1" ∷ [])
    × (lines_in (blocked (codes "- LAYER met1 RECT ( 80 52 ) ( 90 58 ) RECT ( 100 90 ) ( 90 40 ) ;\n") (codes " + USE POWER"))
    ≡ codes "routeblock P met1 80 52 90 58" ∷ codes "routeblock P met1 90 50 100 60" ∷ codes "floating P 1" ∷ [])
unfolding net_words
blockages_that_count = (refl, refl)

-- a pin isn't told of, though routing is blocked there
pins_where_routing_is_blocked : lines_in (codes "COMPONENTS 1 ;\n- u1 INV + PLACED ( 0 0 ) N ;\nEND COMPONENTS\nBLOCKAGES 1 ;\n- LAYER met1 RECT ( 0 0 ) ( 900 3000 ) ;\nEND BLOCKAGES\nNETS 1 ;\n- n ( u1 Y ) ;\nEND NETS\n") ≡ []
unfolding net_words
pins_where_routing_is_blocked = refl

-- any entry of a net makes it one of power, by its first USE
power_of_another_entry : (lines_in (blocked [] [] ++ codes "NETS 1 ;\n- P + USE GROUND ;\nEND NETS\n") ≡ codes "floating P 1" ∷ [])
    × (lines_in (codes "NETS 1 ;\n- P + USE POWER ;\nEND NETS\n" ++ blocked [] (codes " + USE SIGNAL")) ≡ codes "floating P 1" ∷ [])
    × (lines_in (blocked [] [] ++ codes "NETS 1 ;\n- P + USE CLOCK + USE POWER ;\nEND NETS\n") ≡ codes "routeblock P met1 60 50 70 60" ∷ codes "floating P 1" ∷ [])
    × (lines_in (blocked [] [] ++ codes "NETS 1 ;\n- Q + USE POWER ;\nEND NETS\n") ≡ codes "routeblock P met1 60 50 70 60" ∷ codes "floating P 1" ∷ [])
unfolding net_words
power_of_another_entry = (refl, refl, refl, refl)

-- what lies on a layer of cuts touches as on one of routing; what lies on another layer is no part
on_a_layer_of_cuts : lines_in (codes "SPECIALNETS 3 ;\n- a + RECT via1 ( 0 0 ) ( 10 10 ) + RECT via1 ( 10 0 ) ( 20 10 ) ;\n- b + RECT via1 ( 20 10 ) ( 30 30 ) ;\n- c + RECT nwell ( 0 0 ) ( 30 30 ) ;\nEND SPECIALNETS\n")
    ≡ codes "short a b via1 20 10 20 10" ∷ codes "floating a 1" ∷ codes "floating b 1" ∷ []
unfolding net_words
on_a_layer_of_cuts = refl

-- the points of vias by themselves are a row, in which a * repeats the coordinate of the point before
vias_at_stars : lines_in (codes "SPECIALNETS 2 ;\n- a + VIA M1M2 ( 100 500 ) ( 900 * ) ( * 1500 ) ;\n- b + RECT met1 ( 1000 600 ) ( 1000 600 ) + RECT met2 ( 1000 1600 ) ( 1000 1600 ) ;\nEND SPECIALNETS\n")
    ≡ codes "short a b met1 1000 600 1000 600" ∷ codes "short a b met2 1000 1600 1000 1600" ∷ codes "floating a 3" ∷ codes "floating b 2" ∷ []
unfolding net_words
vias_at_stars = refl
