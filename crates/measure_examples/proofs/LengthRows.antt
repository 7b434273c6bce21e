-- Worked examples of lengths and boxes of nets, by computing.
use Rattle.std.specs.Prelude.{ℕ, List, [], Option, Some, None, codes, pos, neg_ℤ, ℤ}
use Rattle.std.proofs.Common.{◌≡◌, refl}
use Rattle.design_model.specs.Geometry.{Rectangle}
use Rattle.measure_examples.proofs.Measuring.{box_in, length_in, measure_words, total_in}

abbrev rectangle : ℤ → ℤ → ℤ → ℤ → Option (Option (Option Rectangle))
rectangle x1 y1 x2 y2 = Some (Some (Some (record { x1 = x1; y1 = y1; x2 = x2; y2 = y2 })))

-- two inverters side by side on their supply, and a net that joins them
abbrev joined : List ℕ
joined = codes "COMPONENTS 2 ;\n- u1 INV + PLACED ( 0 0 ) N ;\n- u2 INV + FIXED ( 920 0 ) N ;\nEND COMPONENTS\nSPECIALNETS 1 ;\n- VDD ( * VDD ) + USE POWER ;\nEND SPECIALNETS\nNETS 1 ;\n- n1 ( u1 Y ) ( u2 A ) + ROUTED met1 ( 700 1100 ) ( 1120 * ) ;\nEND NETS\n"

-- the centre of a wire, without what goes past its ends; and all shapes of a net, those of its pins too
two_nets : (length_in joined (codes "n1") ≡ Some (Some 420)) × (length_in joined (codes "VDD") ≡ Some (Some 0)) × (length_in joined (codes "n2") ≡ Some None) × (total_in joined ≡ Some 420)
    × (box_in joined (codes "n1") ≡ rectangle (pos 600) (pos 1000) (pos 1220) (pos 1200))
    × (box_in joined (codes "VDD") ≡ rectangle (pos 0) (pos 2480) (pos 1840) (pos 2720))
    × (box_in joined (codes "u1") ≡ Some None)
unfolding measure_words
two_nets = (refl, refl, refl, refl, refl, refl, refl)

no_nets : (total_in [] ≡ Some 0) × (length_in [] [] ≡ Some None)
unfolding measure_words
no_nets = (refl, refl)

-- entries of one name, in both sections, are one net; a wire there and back counts twice; MUSTJOIN is no net
abbrev of_one_name : List ℕ
of_one_name = codes "SPECIALNETS 2 ;\n- n + ROUTED met1 10 ( 0 0 ) ( 0 30 ) ( 0 10 ) ;\n- m ;\nEND SPECIALNETS\nNETS 2 ;\n- n + ROUTED met1 ( 1000 0 ) ( 1400 * ) + NOSHIELD met2 ( 0 0 ) ( 7 * ) NEW met1 ( 0 0 ) ( * -5 ) ;\n- MUSTJOIN ( u A ) + ROUTED met1 ( 0 0 ) ( 99 * ) ;\nEND NETS\n"

entries_of_one_name : (length_in of_one_name (codes "n") ≡ Some (Some 462)) × (length_in of_one_name (codes "m") ≡ Some (Some 0)) × (length_in of_one_name (codes "MUSTJOIN") ≡ Some None) × (total_in of_one_name ≡ Some 462)
    × (box_in of_one_name (codes "n") ≡ rectangle (neg_ℤ (pos 70)) (neg_ℤ (pos 75)) (pos 1470) (pos 70))
    × (box_in of_one_name (codes "m") ≡ Some (Some None))
unfolding measure_words
entries_of_one_name = (refl, refl, refl, refl, refl, refl)

-- on a layer that isn't known, or that connects nothing, a wire has its length and no shape; a diagonal has neither, and the
-- path goes on behind it
odd_wires : (length_in (codes "SPECIALNETS 1 ;\n- P + ROUTED met9 10 ( 0 0 ) ( 100 * ) NEW nwell 10 ( 0 0 ) ( * 20 ) ;\nEND SPECIALNETS\n") (codes "P") ≡ Some (Some 120))
    × (box_in (codes "SPECIALNETS 1 ;\n- P + ROUTED met9 10 ( 0 0 ) ( 100 * ) NEW nwell 10 ( 0 0 ) ( * 20 ) ;\nEND SPECIALNETS\n") (codes "P") ≡ Some (Some None))
    × (length_in (codes "SPECIALNETS 1 ;\n- P + ROUTED met1 10 ( 0 0 ) ( 30 40 ) ( 50 * ) ;\nEND SPECIALNETS\n") (codes "P") ≡ Some (Some 20))
    × (box_in (codes "SPECIALNETS 1 ;\n- P + ROUTED met1 10 ( 0 0 ) ( 30 40 ) ( 50 * ) ;\nEND SPECIALNETS\n") (codes "P") ≡ rectangle (pos 30) (pos 35) (pos 50) (pos 45))
unfolding measure_words
odd_wires = (refl, refl, refl, refl)

-- rectangles and vias have no length, in a path or by themselves, and a virtual point none either
without_length : (length_in (codes "SPECIALNETS 1 ;\n- P + RECT met1 ( 0 0 ) ( 50 60 ) + VIA M1M2 ( 500 500 ) + ROUTED met1 0 ( 0 0 ) M1M2 DO 2 BY 1 STEP 300 0 ;\nEND SPECIALNETS\n") (codes "P") ≡ Some (Some 0))
    × (box_in (codes "SPECIALNETS 1 ;\n- P + RECT met1 ( 0 0 ) ( 50 60 ) + VIA M1M2 ( 500 500 ) + ROUTED met1 0 ( 0 0 ) M1M2 DO 2 BY 1 STEP 300 0 ;\nEND SPECIALNETS\n") (codes "P") ≡ rectangle (neg_ℤ (pos 100)) (neg_ℤ (pos 100)) (pos 600) (pos 600))
    × (length_in (codes "NETS 1 ;\n- n + ROUTED met1 ( 0 0 ) ( 10 * ) VIRTUAL ( 90 0 ) ( 95 * ) RECT ( 0 0 1 1 ) ;\nEND NETS\n") (codes "n") ≡ Some (Some 15))
unfolding measure_words
without_length = (refl, refl, refl)
