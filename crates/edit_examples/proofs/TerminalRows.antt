-- Worked examples of edits of a net's terminals, by computing.
use Rattle.std.specs.Prelude.{ℕ, List, ◌++◌, codes}
use Rattle.std.proofs.Common.{refl}
use Rattle.edit_model.specs.declared.edit.EditCode.TheVariants.{Connection, UnknownName}
use Rattle.edit_rules.specs.Edits.{of_net}
use Rattle.edit_rules.specs.NetEdits.{connect_to, disconnect_from}
use Rattle.edit_examples.proofs.EditedTexts.{Makes, Refuses, edit_words}

-- an inverter, a component named PIN and one of a macro that isn't known, a pin of the design, and these entries
abbrev with_nets : List ℕ → List ℕ → List ℕ
with_nets special nets =
    codes "COMPONENTS 3 ; - u1 INV ; - PIN INV ; - x NAND ; END COMPONENTS PINS 1 ; - p ; END PINS SPECIALNETS 1 ; " ++ special
    ++ codes "END SPECIALNETS NETS 1 ; " ++ nets ++ codes "END NETS\n"

-- behind the last terminal, or behind the name; of the entry of NETS, or else of SPECIALNETS
connected : Makes (with_nets (codes "- n ( * VDD ) ;\n") (codes "- n ( u1 Y ) ( u2 A + SYNTHESIZED ) # x\n+ USE SIGNAL ;\n")) (of_net (codes "n") (connect_to (codes "u1") (codes "A")))
    (with_nets (codes "- n ( * VDD ) ;\n") (codes "- n ( u1 Y ) ( u2 A + SYNTHESIZED ) ( u1 A ) # x\n+ USE SIGNAL ;\n"))
    × Makes (with_nets (codes "- s + USE POWER ;\n") (codes "- n ;\n")) (of_net (codes "s") (connect_to (codes "PIN") (codes "p"))) (with_nets (codes "- s ( PIN p ) + USE POWER ;\n") (codes "- n ;\n"))
    × Makes (with_nets (codes "- s ( * A ) ;\n") (codes "- n ;\n")) (of_net (codes "n") (connect_to (codes "u1") (codes "A"))) (with_nets (codes "- s ( * A ) ;\n") (codes "- n ( u1 A ) ;\n"))
unfolding edit_words
connected = (refl, refl, refl)

-- no net, no component, no pin, a macro that isn't known, and a virtual pin; and what some net lists already
not_connected : Refuses (with_nets (codes "- s ;\n") (codes "- n ;\n")) (of_net (codes "m") (connect_to (codes "u1") (codes "A"))) UnknownName
    × Refuses (with_nets (codes "- s ;\n") (codes "- n ;\n")) (of_net (codes "n") (connect_to (codes "u9") (codes "A"))) UnknownName
    × Refuses (with_nets (codes "- s ;\n") (codes "- n ;\n")) (of_net (codes "n") (connect_to (codes "u1") (codes "Z"))) UnknownName
    × Refuses (with_nets (codes "- s ;\n") (codes "- n ;\n")) (of_net (codes "n") (connect_to (codes "x") (codes "A"))) UnknownName
    × Refuses (with_nets (codes "- s ;\n") (codes "- n ;\n")) (of_net (codes "n") (connect_to (codes "PIN") (codes "Y"))) UnknownName
    × Refuses (with_nets (codes "- s ;\n") (codes "- n ;\n")) (of_net (codes "n") (connect_to (codes "VPIN") (codes "p"))) UnknownName
    × Refuses (with_nets (codes "- s ;\n") (codes "- n ( u1 A ) ;\n")) (of_net (codes "s") (connect_to (codes "u1") (codes "A"))) Connection
    × Refuses (with_nets (codes "- s ( PIN p ) ;\n") (codes "- n ;\n")) (of_net (codes "n") (connect_to (codes "PIN") (codes "p"))) Connection
unfolding edit_words
not_connected = (refl, refl, refl, refl, refl, refl, refl, refl)

-- the first such terminal goes from its ( to its ), NETS before SPECIALNETS
disconnected : Makes (with_nets (codes "- n ( u2 A ) ;\n") (codes "- n ( u1 Y ) ( u2 A + SYNTHESIZED ) + USE SIGNAL ;\n")) (of_net (codes "n") (disconnect_from (codes "u2") (codes "A")))
    (with_nets (codes "- n ( u2 A ) ;\n") (codes "- n ( u1 Y )  + USE SIGNAL ;\n"))
    × Makes (with_nets (codes "- n ( u2 A ) ( u2 A ) ;\n") (codes "- n ( u1 Y ) ( * A ) ;\n")) (of_net (codes "n") (disconnect_from (codes "u2") (codes "A")))
    (with_nets (codes "- n  ( u2 A ) ;\n") (codes "- n ( u1 Y ) ( * A ) ;\n"))
    × Makes (with_nets (codes "- s ( PIN q ) ;\n") (codes "- n ;\n")) (of_net (codes "s") (disconnect_from (codes "PIN") (codes "q"))) (with_nets (codes "- s  ;\n") (codes "- n ;\n"))
unfolding edit_words
disconnected = (refl, refl, refl)

-- what no entry of the net lists by name
not_disconnected : Refuses (with_nets (codes "- s ( * A ) ( VPIN v ) ;\n") (codes "- n ( u1 A ) ;\n")) (of_net (codes "s") (disconnect_from (codes "u1") (codes "A"))) Connection
    × Refuses (with_nets (codes "- s ( * A ) ( VPIN v ) ;\n") (codes "- n ;\n")) (of_net (codes "s") (disconnect_from (codes "*") (codes "A"))) Connection
    × Refuses (with_nets (codes "- s ( * A ) ( VPIN v ) ;\n") (codes "- n ;\n")) (of_net (codes "s") (disconnect_from (codes "VPIN") (codes "v"))) Connection
    × Refuses (with_nets (codes "- s ( * A ) ;\n") (codes "- MUSTJOIN ( u1 A ) ;\n")) (of_net (codes "MUSTJOIN") (disconnect_from (codes "u1") (codes "A"))) UnknownName
unfolding edit_words
not_disconnected = (refl, refl, refl, refl)
