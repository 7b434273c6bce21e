-- Worked rows of what the lines on a statement depend on, by computing.
use Rattle.std.proofs.Common.{◌≡◌, true, false, List, ℕ, [], ◌∷◌, ◌++◌, Option, Some, None, Result, Ok, Err, refl, codes, flat_map, map}
use Rattle.design_model.specs.declared.mode.Section.TheVariants.{Components}
use Rattle.design_model.specs.EnumWords.{section_word}
use Rattle.design_model.specs.declared.fault.Fault.{Fault}
use Rattle.def_grammar.specs.Records.{Record, read_def}
use Rattle.entry_rules.specs.References.{to_site}
use Rattle.entry_examples.proofs.Computing.{def_lines}
use Rattle.agreement_laws.specs.Agreement.{Shown, a_header, all_shown, an_end, an_entry, nothing, outline_of, references_of, refers_to, shown_but, vias_of}

abbrev design_of : Result (List Record) Fault → List Record
design_of (Ok design) = design
design_of (Err fault) = []

-- what a text of UNITS, these statements, and END DESIGN reads as
abbrev design : List ℕ → List Record
design statements = design_of (read_def (codes "UNITS DISTANCE MICRONS 1000 ;\n" ++ statements ++ codes "END DESIGN\n"))

abbrev or_dash : Option (List ℕ) → List ℕ
or_dash None = codes "-"
or_dash (Some name) = name

-- the section, the name, the macro and the rule that an entry shows
abbrev words_shown : Shown → List (List ℕ)
words_shown x = section_word x.section ∷ or_dash x.name ∷ or_dash x.cell ∷ or_dash x.rule ∷ []

abbrev shown_in : List ℕ → List (List ℕ)
shown_in statements = flat_map words_shown (all_shown (design statements))

-- vias and rules by their names, components by their macros, and a blockage not at all
definitions_shown : shown_in (codes "VIAS 1 ;\n- v + RECT met1 ( 0 0 ) ( 1 1 ) ;\nEND VIAS\nNONDEFAULTRULES 1 ;\n- w + LAYER met1 WIDTH 3 ;\nEND NONDEFAULTRULES\n")
    ≡ codes "VIAS" ∷ codes "v" ∷ codes "-" ∷ codes "-" ∷ codes "NONDEFAULTRULES" ∷ codes "w" ∷ codes "-" ∷ codes "w" ∷ []
unfolding def_lines
definitions_shown = refl

entries_shown : shown_in (codes "COMPONENTS 2 ;\n- u2 INV + PLACED ( 5 0 ) N ;\n- u1 core ;\nEND COMPONENTS\nBLOCKAGES 1 ;\n- PLACEMENT RECT ( 0 0 ) ( 1 1 ) ;\nEND BLOCKAGES\nNETS 1 ;\n- n ( u1 A ) ;\nEND NETS\n")
    ≡ codes "COMPONENTS" ∷ codes "u2" ∷ codes "INV" ∷ codes "-" ∷ codes "COMPONENTS" ∷ codes "u1" ∷ codes "core" ∷ codes "-" ∷ codes "NETS" ∷ codes "n" ∷ codes "-" ∷ codes "-" ∷ []
unfolding def_lines
entries_shown = refl

-- entries without a name show nothing: of these statements the net n alone does
nothing_shown : shown_in (codes "BLOCKAGES 2 ;\n- PLACEMENT RECT ( 0 0 ) ( 1 1 ) ;\n- LAYER met1 RECT ( 0 0 ) ( 1 1 ) ;\nEND BLOCKAGES\nFILLS 1 ;\n- LAYER met1 RECT ( 0 0 ) ( 1 1 ) ;\nEND FILLS\nNETS 2 ;\n- MUSTJOIN ( u1 A ) ;\n- n ( u1 A ) ;\nEND NETS\n")
    ≡ codes "NETS" ∷ codes "n" ∷ codes "-" ∷ codes "-" ∷ []
unfolding def_lines
nothing_shown = refl

-- what is shown but for the components of a name: a net of that name is
shown_but_one : flat_map words_shown (shown_but (codes "u1") (design (codes "COMPONENTS 2 ;\n- u2 INV ;\n- u1 core ;\nEND COMPONENTS\nNETS 1 ;\n- u1 ( u1 A ) ;\nEND NETS\n")))
    ≡ codes "COMPONENTS" ∷ codes "u2" ∷ codes "INV" ∷ codes "-" ∷ codes "NETS" ∷ codes "u1" ∷ codes "-" ∷ codes "-" ∷ []
unfolding def_lines
shown_but_one = refl

-- a statement refers to a component by a terminal of it; not by its own name, by a pin of the design, or by a star
refers_by_terminals : map (refers_to (codes "u1")) (design (codes "COMPONENTS 1 ;\n- u1 INV ;\nEND COMPONENTS\nNETS 3 ;\n- n ( u2 A ) ( u1 Z ) ;\n- u1 ( u2 B ) ( PIN u1 ) ;\n- m ( * u1 ) ;\nEND NETS\n"))
    ≡ false ∷ false ∷ false ∷ false ∷ false ∷ true ∷ false ∷ false ∷ false ∷ false ∷ []
unfolding def_lines
refers_by_terminals = refl

-- a component that is placed otherwise shows the same, and so does a net with other wires
placed_otherwise : all_shown (design (codes "COMPONENTS 1 ;\n- u1 INV + PLACED ( 5 0 ) N ;\nEND COMPONENTS\nNETS 1 ;\n- n ( u1 A ) ;\nEND NETS\n"))
    ≡ all_shown (design (codes "COMPONENTS 1 ;\n- u1 INV + WEIGHT 3 + FIXED ( 9 9 ) FS ;\nEND COMPONENTS\nNETS 1 ;\n- n ( u1 A ) + ROUTED met1 ( 0 0 ) ( 9 0 ) ;\nEND NETS\n"))
unfolding def_lines
placed_otherwise = refl

-- the vias of wires, one as often as it is named; terminals name none
vias_of_nets : flat_map vias_of (design (codes "NETS 2 ;\n- n ( u1 A ) + ROUTED met1 ( 0 0 ) M1M2 ( * 9 ) M NEW met2 ( 0 0 ) M1M2 ;\n- m + FIXED met1 ( 0 0 ) ( 9 0 ) ;\nEND NETS\n"))
    ≡ codes "M1M2" ∷ codes "M" ∷ codes "M1M2" ∷ []
unfolding def_lines
vias_of_nets = refl

vias_of_special_nets : flat_map vias_of (design (codes "SPECIALNETS 1 ;\n- s + ROUTED met1 100 ( 0 0 ) ( 9 0 ) V1 + USE POWER ;\nEND SPECIALNETS\n")) ≡ codes "V1" ∷ []
unfolding def_lines
vias_of_special_nets = refl

-- a row refers to its site, and the area of the die to nothing
floor_refers : flat_map references_of (design (codes "DIEAREA ( 0 0 ) ( 9 9 ) ;\nROW r0 core 0 0 N ;\n")) ≡ to_site (codes "core") ∷ []
unfolding def_lines
floor_refers = refl

-- what each statement is to the number in a header
outline : map outline_of (design (codes "DIEAREA ( 0 0 ) ( 9 9 ) ;\nCOMPONENTS 2 ;\n- u1 INV ;\nEND COMPONENTS\n"))
    ≡ nothing ∷ nothing ∷ a_header Components (codes "2") ∷ an_entry ∷ an_end ∷ nothing ∷ []
unfolding def_lines
outline = refl
