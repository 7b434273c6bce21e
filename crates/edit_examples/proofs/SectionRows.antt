-- Worked examples of edits that put an entry into a section or take it out, by computing.
use Rattle.std.specs.Prelude.{ℕ, List, [], ◌++◌, Some, None, codes, pos, neg_ℤ}
use Rattle.std.proofs.Common.{refl}
use Rattle.edit_model.specs.declared.edit.EditCode.TheVariants.{BadName, Connection, Fixed, NameTaken, NoSection, Number, UnknownName}
use Rattle.edit_rules.specs.Edits.{of_section}
use Rattle.edit_rules.specs.SectionEdits.{add_blockage, add_component, remove_component}
use Rattle.edit_examples.proofs.EditedTexts.{Makes, Refuses, edit_words}

-- a section of components with this header's number
abbrev components : List ℕ → List ℕ → List ℕ
components number entries = codes "COMPONENTS " ++ number ++ codes " ;\n" ++ entries ++ codes "END COMPONENTS\n"

-- the entry comes last, and the header has the number of entries, whatever it said
added : Makes (components (codes "2") (codes "- u1 INV ;\n- u2 INV ;\n")) (of_section (add_component (codes "u9") (codes "INV"))) (components (codes "3") (codes "- u1 INV ;\n- u2 INV ;\n- u9 INV ;\n"))
    × Makes (components (codes "+007") []) (of_section (add_component (codes "a#b\"") (codes "INV"))) (components (codes "1") (codes "- a#b\" INV ;\n"))
    × Makes (codes "COMPONENTS 1 ; - u1 INV ; END # x\nCOMPONENTS ") (of_section (add_component (codes "MUSTJOIN") (codes "INV"))) (codes "COMPONENTS 2 ; - u1 INV ; - MUSTJOIN INV ;\nEND # x\nCOMPONENTS ")
unfolding edit_words
added = (refl, refl, refl)

-- an unknown macro, a name that no component may have, one that is there, and no section, in this order
not_added : Refuses (components (codes "1") (codes "- u1 INV ;\n")) (of_section (add_component (codes ";") (codes "NAND"))) UnknownName
    × Refuses (components (codes "1") (codes "- u1 INV ;\n")) (of_section (add_component (codes ";") (codes "INV"))) BadName
    × Refuses [] (of_section (add_component (codes "PIN") (codes "INV"))) BadName
    × Refuses [] (of_section (add_component (codes "a b") (codes "INV"))) BadName
    × Refuses [] (of_section (add_component [] (codes "INV"))) BadName
    × Refuses [] (of_section (add_component (codes "#a") (codes "INV"))) BadName
    × Refuses (components (codes "1") (codes "- u1 INV ;\n")) (of_section (add_component (codes "u1") (codes "INV"))) NameTaken
    × Refuses (codes "PINS 0 ;\nEND PINS\n") (of_section (add_component (codes "u1") (codes "INV"))) NoSection
unfolding edit_words
not_added = (refl, refl, refl, refl, refl, refl, refl, refl)

-- the entry goes from its - to its ;, with what stands between them; the line that it stood on stays
removed : Makes (components (codes "2") (codes "- u1 INV ;\n- u2 INV + PLACED ( 0 0 ) N # x\n ;\n")) (of_section (remove_component (codes "u2"))) (components (codes "1") (codes "- u1 INV ;\n\n"))
    × Makes (components (codes "9") (codes "- u1 INV ;\n")) (of_section (remove_component (codes "u1"))) (components (codes "0") (codes "\n"))
    × Makes (components (codes "2") (codes "- PIN INV ;\n- v INV ;\n") ++ codes "NETS 1 ;\n- n ( * Y ) ( PIN Y ) ( VPIN v ) ( w v ) + SUBNET ( v A ) ;\nEND NETS\n") (of_section (remove_component (codes "PIN")))
    (components (codes "1") (codes "\n- v INV ;\n") ++ codes "NETS 1 ;\n- n ( * Y ) ( PIN Y ) ( VPIN v ) ( w v ) + SUBNET ( v A ) ;\nEND NETS\n")
    × Makes (components (codes "1") (codes "- v INV ;\n") ++ codes "NETS 1 ;\n- MUSTJOIN ( v A ) ;\nEND NETS\n") (of_section (remove_component (codes "v"))) (components (codes "0") (codes "\n") ++ codes "NETS 1 ;\n- MUSTJOIN ( v A ) ;\nEND NETS\n")
unfolding edit_words
removed = (refl, refl, refl, refl)

-- one that isn't there, one that is held, and one that a net lists
not_removed : Refuses (components (codes "1") (codes "- u INV + FIXED ( 0 0 ) N ;\n")) (of_section (remove_component (codes "v"))) UnknownName
    × Refuses (components (codes "1") (codes "- u INV + FIXED ( 0 0 ) N ;\n") ++ codes "SPECIALNETS 1 ;\n- s ( u A ) ;\nEND SPECIALNETS\n") (of_section (remove_component (codes "u"))) Fixed
    × Refuses (components (codes "1") (codes "- u INV ;\n") ++ codes "SPECIALNETS 1 ;\n- s ( u NONE + SYNTHESIZED ) ;\nEND SPECIALNETS\n") (of_section (remove_component (codes "u"))) Connection
    × Refuses (components (codes "1") (codes "- u INV ;\n") ++ codes "NETS 1 ;\n- s ( u A ) ;\nEND NETS\n") (of_section (remove_component (codes "u"))) Connection
unfolding edit_words
not_removed = (refl, refl, refl, refl)

abbrev blockages : List ℕ → List ℕ → List ℕ
blockages number entries = codes "BLOCKAGES " ++ number ++ codes " ;\n" ++ entries ++ codes "END BLOCKAGES\n"

-- on a layer, or of placement; entries that are kept for want of their form count too
blocked : Makes (blockages (codes "0") []) (of_section (add_blockage (Some (codes "met1")) (pos 0) (pos 0) (pos 10) (neg_ℤ (pos 10)))) (blockages (codes "1") (codes "- LAYER met1 RECT ( 0 0 ) ( 10 -10 ) ;\n"))
    × Makes (blockages (codes "5") (codes "- what ever ;\n")) (of_section (add_blockage None (pos 3680) (pos 0) (pos 2147483647) (neg_ℤ (pos 2147483647)))) (blockages (codes "2") (codes "- what ever ;\n- PLACEMENT RECT ( 3680 0 ) ( 2147483647 -2147483647 ) ;\n"))
unfolding edit_words
blocked = (refl, refl)

not_blocked : Refuses [] (of_section (add_blockage (Some (codes "met9")) (pos 2147483648) (pos 0) (pos 0) (pos 0))) UnknownName
    × Refuses [] (of_section (add_blockage (Some (codes "nwell")) (pos 0) (pos 0) (pos 0) (pos 2147483648))) Number
    × Refuses (components (codes "0") []) (of_section (add_blockage None (pos 0) (pos 0) (pos 0) (pos 0))) NoSection
unfolding edit_words
not_blocked = (refl, refl, refl)
