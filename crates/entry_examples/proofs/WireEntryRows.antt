-- Worked rows of the lines on NETS and SPECIALNETS, by computing.
use Rattle.std.proofs.Common.{◌≡◌, ◌++◌, List, ℕ, [], ◌∷◌, refl, codes}
use Rattle.entry_examples.proofs.Computing.{def_lines}
use Rattle.entry_examples.proofs.EntryTexts.{unknown_in, off_layer_in, unchecked_in, HasNoLine}

abbrev special_nets : List ℕ → List ℕ
special_nets entries = codes "SPECIALNETS 1 ;\n" ++ entries ++ codes "END SPECIALNETS\n"

abbrev nets : List ℕ → List ℕ
nets entries = codes "NETS 1 ;\n" ++ entries ++ codes "END NETS\n"

-- a path on a layer that isn't known: the via doesn't join it to another
abbrev on_met9 : List ℕ
on_met9 = special_nets (codes "- P + ROUTED met9 10 ( 0 0 ) M1M2 ;\n")

path_on_an_unknown_layer : (unknown_in on_met9 ≡ codes "unknown LAYER met9 SPECIALNETS P" ∷ []) × (off_layer_in on_met9 ≡ codes "vialayer M1M2 SPECIALNETS P" ∷ []) × (unchecked_in on_met9 ≡ [])
unfolding def_lines
path_on_an_unknown_layer = (refl, refl, refl)

-- a via by itself has no path
via_by_itself : HasNoLine (special_nets (codes "- P + VIA M1M2 ( 0 0 ) ;\n"))
unfolding def_lines
via_by_itself = (refl, refl, refl)

-- a via leads from met1 to met2 and back; from via1 to none; and one that isn't known to none
abbrev over_vias : List ℕ
over_vias = nets (codes "- n + ROUTED met1 ( 0 0 ) M1M2 ( 5 0 ) M1M2 ( 9 0 ) NEW met2 ( 0 0 ) M1M2 N NEW via1 ( 0 0 ) M1M2 M1M2 NEW met1 ( 0 0 ) M2M3 ;\n")

wires_over_vias : (unknown_in over_vias ≡ codes "unknown VIA M2M3 NETS n" ∷ [])
    × (off_layer_in over_vias ≡ codes "vialayer M1M2 NETS n" ∷ codes "vialayer M1M2 NETS n" ∷ []) × (unchecked_in over_vias ≡ [])
unfolding def_lines
wires_over_vias = (refl, refl, refl)

-- a wire with a style counts once
styled : (unchecked_in (nets (codes "- n + ROUTED met1 STYLE 1 ( 0 0 ) ( 100 * ) NEW met1 ( 0 0 ) ;\n")) ≡ codes "unchecked NETS n 1" ∷ [])
    × (unchecked_in (special_nets (codes "- P + ROUTED met1 9 + STYLE 1 + SHAPE RING + STYLE 2 ( 0 0 ) ( 9 * ) NEW met1 9 + STYLE 1 ( 0 0 ) ;\n")) ≡ codes "unchecked SPECIALNETS P 2" ∷ [])
unfolding def_lines
styled = (refl, refl)

-- terminals of a component that isn't there, of one whose macro lacks the pin, of one whose macro isn't known, and of the
-- design; a virtual pin, and a pin of all components
abbrev terminals : List ℕ
terminals =
    codes "COMPONENTS 2 ;\n- u1 INV ;\n- u2 BUF ;\nEND COMPONENTS\nPINS 1 ;\n- p ;\nEND PINS\n"
    ++ nets (codes "- n ( nothere A ) ( u1 Q ) ( u1 A ) ( u2 Q ) ( PIN nopin ) ( PIN p ) ( VPIN x ) ( * Z ) ;\n- MUSTJOIN ( u1 Q ) ;\n")

unknown_terminals : unknown_in terminals
    ≡ codes "unknown MACRO BUF COMPONENTS u2" ∷ codes "unknown COMPONENT nothere NETS n" ∷ codes "unknown PIN u1 Q NETS n" ∷ codes "unknown PIN PIN nopin NETS n" ∷ []
unfolding def_lines
unknown_terminals = refl

-- a diagonal segment, also one after a point where no wire goes, by what a * stands for
diagonal_segments : (unchecked_in (special_nets (codes "- P + ROUTED met1 10 ( 50 55 ) ( 150 60 ) ;\n")) ≡ codes "unchecked SPECIALNETS P 1" ∷ [])
    × (unchecked_in (nets (codes "- n + ROUTED met1 ( 0 0 ) ( 5 * ) VIRTUAL ( 9 4 ) ( * 6 ) M1M2 ( 3 * ) ( 4 5 ) ;\n")) ≡ codes "unchecked NETS n 1" ∷ [])
unfolding def_lines
diagonal_segments = (refl, refl)

-- on a layer of cuts no via joins
via_on_its_cut_layer : off_layer_in (special_nets (codes "- P + ROUTED via1 0 ( 50 55 ) M1M2 ;\n")) ≡ codes "vialayer M1M2 SPECIALNETS P" ∷ []
unfolding def_lines
via_on_its_cut_layer = refl

-- clauses that are kept for want of their form, each up to the next +, and those of unknown words
clauses_without_form : (unchecked_in (special_nets (codes "- P + ROUTED met1 10 + SHAPE S ( 0 0 ) \"s\" ;\n")) ≡ codes "unchecked SPECIALNETS P 2" ∷ [])
    × HasNoLine (special_nets (codes "- P + WEIGHT 5 + RECTANGLE x ;\n"))
    × (unchecked_in (nets (codes "- n + WEIGHT 5 + ROUTED met1 ( 0 ) + USE a b + SUBNET s + ROUTED met9 ( 0 0 ) ;\n")) ≡ codes "unchecked NETS n 3" ∷ [])
unfolding def_lines
clauses_without_form = (refl, (refl, refl, refl), refl)

-- the first rule of a net counts, and each wire's
makings_of_nets : unknown_in (nets (codes "- n + NONDEFAULTRULE a + NONDEFAULTRULE b + ROUTED met1 TAPERRULE c ( 0 0 ) NEW met1 TAPER ( 0 0 ) NEW met8 TAPERRULE a ( 0 0 ) ;\n"))
    ≡ codes "unknown RULE a NETS n" ∷ codes "unknown RULE c NETS n" ∷ codes "unknown LAYER met8 NETS n" ∷ codes "unknown RULE a NETS n" ∷ []
unfolding def_lines
makings_of_nets = refl

-- a net that is shielded is one of NETS or SPECIALNETS; each shape has its layer or via
shapes_of_special_nets : unknown_in (nets (codes "- n ;\n") ++ special_nets (codes "- P ( PIN p ) + SHIELD n met1 5 ( 0 0 ) + SHIELD P + SHIELD m + RECT a ( 0 0 ) ( 1 1 ) + VIA b ( 0 0 ) + POLYGON c ( 0 0 ) ( 1 0 ) ( 1 1 ) ;\n"))
    ≡ codes "unknown PIN PIN p SPECIALNETS P" ∷ codes "unknown NET m SPECIALNETS P" ∷ codes "unknown LAYER a SPECIALNETS P" ∷ codes "unknown VIA b SPECIALNETS P" ∷ codes "unknown LAYER c SPECIALNETS P" ∷ []
unfolding def_lines
shapes_of_special_nets = refl
