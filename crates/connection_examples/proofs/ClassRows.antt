-- Worked examples of what of a net hangs together, by computing.
use Rattle.std.specs.Prelude.{ℕ, List, [], ◌∷◌, ◌++◌, codes}
use Rattle.std.proofs.Common.{◌≡◌, refl}
use Rattle.connection_examples.proofs.NetTexts.{lines_in, lines_of_nets, net_words}

joined_by_a_wire : lines_of_nets (codes "- n1 ( u1 Y ) ( u2 A ) + ROUTED met1 ( 700 1100 ) ( 1120 * ) ;\n") ≡ []
unfolding net_words
joined_by_a_wire = refl

too_short : lines_of_nets (codes "- n1 ( u1 Y ) ( u2 A ) + ROUTED met1 ( 700 1100 ) ( 949 * ) ;\n") ≡ codes "open n1 2" ∷ []
unfolding net_words
too_short = refl

at_its_edge : lines_of_nets (codes "- n1 ( u1 Y ) ( u2 A ) + ROUTED met1 ( 700 1100 ) ( 950 * ) ;\n") ≡ []
unfolding net_words
at_its_edge = refl

at_a_corner : lines_of_nets (codes "- n1 ( u1 Y ) ( u2 A ) + ROUTED met1 ( 700 1270 ) ( 950 * ) ;\n") ≡ []
unfolding net_words
at_a_corner = refl

-- the same place on another layer joins nothing, and is a class of its own
on_another_layer : lines_of_nets (codes "- n1 ( u1 Y ) ( u2 A ) + ROUTED met2 ( 700 1100 ) ( 1120 * ) ;\n") ≡ codes "open n1 2" ∷ codes "floating n1 1" ∷ []
unfolding net_words
on_another_layer = refl

without_wires : lines_of_nets (codes "- n1 ( u1 Y ) ( u2 A ) ;\n") ≡ codes "unrouted n1 2" ∷ []
unfolding net_words
without_wires = refl

-- a diagonal wire has no shape, and a pin on a layer of another TYPE doesn't count
nothing_to_connect : lines_of_nets (codes "- n1 ( u1 Y ) ( u2 A ) ( u1 W ) + ROUTED met1 ( 700 1100 ) ( 1120 1200 ) ;\n") ≡ codes "unrouted n1 2" ∷ []
unfolding net_words
nothing_to_connect = refl

-- wires of two entries, one of SPECIALNETS, are of one net; a rectangle and vias by themselves are parts
over_two_entries : lines_in (codes "SPECIALNETS 1 ;\n- n + RECT met1 ( 0 0 ) ( 100 100 ) + VIA M1M2 ( 100 100 ) ( 900 * ) ;\nEND SPECIALNETS\nNETS 1 ;\n- n + ROUTED met2 ( 100 100 ) ( 500 * ) ;\nEND NETS\n") ≡ codes "floating n 2" ∷ []
unfolding net_words
over_two_entries = refl

-- the three shapes of a via are one part; two vias at one place are linked where their shapes meet, and not by the place
abbrev sided : List ℕ → List ℕ
sided wires = codes "VIAS 1 ;\n- side + RECT met1 ( 50 50 ) ( 90 90 ) + RECT via1 ( 60 60 ) ( 80 80 ) + RECT met2 ( 50 50 ) ( 90 90 ) ;\nEND VIAS\nNETS 1 ;\n" ++ wires ++ codes "END NETS\n"

turned_vias_at_one_point : (lines_in (sided (codes "- a + ROUTED met1 ( 0 0 ) side N side S ;\n")) ≡ codes "floating a 2" ∷ [])
    × (lines_in (sided (codes "- b + ROUTED met1 ( 1000 0 ) side N side N ;\n")) ≡ codes "floating b 1" ∷ [])
    × (lines_in (sided (codes "- c + ROUTED met1 ( 2000 0 ) side N NEW met1 ( 2000 0 ) side S ;\n")) ≡ codes "floating c 2" ∷ [])
unfolding net_words
turned_vias_at_one_point = (refl, refl, refl)

-- each via of an array is a part by itself
array_of_vias : lines_in (codes "SPECIALNETS 1 ;\n- a + ROUTED met1 10 ( 0 0 ) M1M2 DO 3 BY 1 STEP 200 0 ;\n- b + ROUTED met1 10 ( 0 5000 ) M1M2 DO 3 BY 1 STEP 201 0 ;\nEND SPECIALNETS\n") ≡ codes "floating a 1" ∷ codes "floating b 3" ∷ []
unfolding net_words
array_of_vias = refl
