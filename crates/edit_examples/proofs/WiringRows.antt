-- Worked examples of edits of a net's wiring, by computing.
use Rattle.std.specs.Prelude.{ℕ, List, ◌++◌, codes}
use Rattle.std.proofs.Common.{refl}
use Rattle.edit_model.specs.declared.edit.EditCode.TheVariants.{Fixed, UnknownName, WiringApart, WiringText}
use Rattle.edit_rules.specs.Edits.{of_net}
use Rattle.edit_rules.specs.NetEdits.{route_by, unroute_all}
use Rattle.edit_examples.proofs.EditedTexts.{Makes, Refuses, edit_words}

abbrev net_with : List ℕ → List ℕ
net_with clauses = codes "NETS 1 ;\n- n ( u Y )" ++ clauses ++ codes ";\nEND NETS\n"

abbrev special_with : List ℕ → List ℕ
special_with clauses = codes "SPECIALNETS 1 ;\n- P" ++ clauses ++ codes ";\nEND SPECIALNETS\n"

-- from the first wiring clause's + to the last one's last token; with none, a space and the text at the entry's end
routed : Makes (net_with (codes " + USE SIGNAL + ROUTED met1 ( 0 0 ) ( 9 * ) + NOSHIELD met2 ( 0 0 ) + WEIGHT 1 ")) (of_net (codes "n") (route_by (codes "+ ROUTED met1 ( 700 1100 ) ( 949 * )")))
    (net_with (codes " + USE SIGNAL + ROUTED met1 ( 700 1100 ) ( 949 * ) + WEIGHT 1 "))
    × Makes (net_with (codes " + P \"x\"")) (of_net (codes "n") (route_by (codes "+ ROUTED met1 ( 0 0 )  "))) (net_with (codes " + P \"x\" + ROUTED met1 ( 0 0 )  "))
    × Makes (net_with (codes " + P \"x\"")) (of_net (codes "n") (route_by (codes "+ ROUTED met1 ( 0 0 ) + FIXED met2 ( 0 0 )"))) (net_with (codes " + P \"x\" + ROUTED met1 ( 0 0 ) + FIXED met2 ( 0 0 ) "))
    × Makes (special_with (codes " + SHAPE RING + RECT met1 ( 0 0 ) ( 1 1 ) + USE POWER ")) (of_net (codes "P") (route_by (codes "+ MASK 1"))) (special_with (codes " + MASK 1 + USE POWER "))
    × Makes (special_with (codes " ")) (of_net (codes "P") (route_by (codes "+ ROUTED + SHIELD q met1 10 + SHAPE RING ( 0 0 ) ( * 5 )"))) (special_with (codes " + ROUTED + SHIELD q met1 10 + SHAPE RING ( 0 0 ) ( * 5 ) "))
unfolding edit_words
routed = (refl, refl, refl, refl, refl)

-- no text, no whole clauses, another clause, one of the other section, a ;, a number out of range, a comment, a string, a refused byte
no_wiring : Refuses (net_with (codes " ")) (of_net (codes "n") (route_by (codes " "))) WiringText
    × Refuses (net_with (codes " ")) (of_net (codes "n") (route_by (codes "+ ROUTED met1 ( 0"))) WiringText
    × Refuses (net_with (codes " ")) (of_net (codes "n") (route_by (codes "+ ROUTED met1 ( 0 0 ) + USE CLOCK"))) WiringText
    × Refuses (net_with (codes " ")) (of_net (codes "n") (route_by (codes "+ ROUTED met1 10 ( 0 0 )"))) WiringText
    × Refuses (net_with (codes " ")) (of_net (codes "n") (route_by (codes "+ ROUTED met1 ( 0 0 ) ;"))) WiringText
    × Refuses (net_with (codes " ")) (of_net (codes "n") (route_by (codes "+ ROUTED met1 ( 0 2147483648 )"))) WiringText
    × Refuses (net_with (codes " ")) (of_net (codes "n") (route_by (codes "+ ROUTED met1 ( 0 0 ) # x"))) WiringText
    × Refuses (net_with (codes " ")) (of_net (codes "n") (route_by (codes "+ ROUTED met1 ( 0 0 ) #\n( 1 * )"))) WiringText
    × Refuses (net_with (codes " ")) (of_net (codes "n") (route_by (codes "+ ROUTED met1 ( 0 0 ) \"x\""))) WiringText
    × Refuses (net_with (codes " ")) (of_net (codes "n") (route_by (codes "+ SUBNET + ROUTED met1 ( 0 0 )"))) WiringText
    × Refuses (special_with (codes " ")) (of_net (codes "P") (route_by (codes "+ ROUTED met1 ( 0 0 )"))) WiringText
    × Refuses (net_with (codes " ")) (of_net (codes "m") (route_by (codes "+"))) UnknownName
unfolding edit_words
no_wiring = (refl, refl, refl, refl, refl, refl, refl, refl, refl, refl, refl, refl)

-- a word with a # inside is no comment
sharp_inside : Makes (net_with (codes " ")) (of_net (codes "n") (route_by (codes "+ ROUTED a#b ( 0 0 )"))) (net_with (codes " + ROUTED a#b ( 0 0 ) "))
unfolding edit_words
sharp_inside = refl

-- taken out, with its bytes and no others; without wiring nothing changes
unrouted : Makes (net_with (codes " + P \"x\" + ROUTED met1 ( 0 0 )  ")) (of_net (codes "n") unroute_all) (net_with (codes " + P \"x\"   "))
    × Makes (special_with (codes " + MASK 1 + USE POWER ")) (of_net (codes "P") unroute_all) (special_with (codes "  + USE POWER "))
    × Makes (net_with (codes " + USE CLOCK ")) (of_net (codes "n") unroute_all) (net_with (codes " + USE CLOCK "))
unfolding edit_words
unrouted = (refl, refl, refl)

-- wiring that is held comes before a wrong text, and that before wiring with a clause between, SUBNET, or one without its form
held : Refuses (net_with (codes " + FIXED met1 ( 0 0 ) + USE CLOCK + ROUTED met1 ( 0 0 ) ")) (of_net (codes "n") (route_by (codes "+"))) Fixed
    × Refuses (net_with (codes " + ROUTED met1 ( 0 0 ) + USE CLOCK + ROUTED met1 ( 0 0 ) ")) (of_net (codes "n") (route_by (codes "+"))) WiringText
    × Refuses (net_with (codes " + ROUTED met1 ( 0 0 ) + USE CLOCK + ROUTED met1 ( 0 0 ) ")) (of_net (codes "n") (route_by (codes "+ ROUTED met1 ( 0 0 )"))) WiringApart
    × Refuses (net_with (codes " + ROUTED met1 ( 0 0 ) + USE CLOCK + ROUTED met1 ( 0 0 ) ")) (of_net (codes "n") unroute_all) WiringApart
    × Refuses (net_with (codes " + FIXED met1 ")) (of_net (codes "n") unroute_all) WiringApart
    × Refuses (net_with (codes " + SUBNET a ")) (of_net (codes "n") (route_by (codes "+ ROUTED met1 ( 0 0 )"))) WiringApart
    × Refuses (special_with (codes " + FIXED ")) (of_net (codes "P") unroute_all) Fixed
    × Refuses (special_with (codes " + ROUTED met1 10 + SHAPE S ( 0 0 ) \"s\" ")) (of_net (codes "P") unroute_all) WiringApart
    × Refuses (special_with (codes " + COVER met1 0 ( 0 0 ) ")) (of_net (codes "P") (route_by (codes "+ SHAPE RING"))) Fixed
unfolding edit_words
held = (refl, refl, refl, refl, refl, refl, refl, refl, refl)

-- a net with entries in both sections is edited in that of NETS alone
in_both : Makes (codes "SPECIALNETS 1 ;\n- n + FIXED met1 10 ( 0 0 ) ;\nEND SPECIALNETS\n" ++ net_with (codes " + ROUTED met1 ( 0 0 ) ")) (of_net (codes "n") unroute_all)
    (codes "SPECIALNETS 1 ;\n- n + FIXED met1 10 ( 0 0 ) ;\nEND SPECIALNETS\n" ++ net_with (codes "  "))
unfolding edit_words
in_both = refl
