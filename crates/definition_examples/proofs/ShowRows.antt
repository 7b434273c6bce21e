-- Worked rows of showing an entry, by computing.
use Rattle.std.proofs.Common.{◌≡◌, ◌++◌, List, ℕ, [], ◌∷◌, Ok, Err, Result, refl, codes, map}
use Rattle.std.specs.Fmt.{digits}
use Rattle.edit_model.specs.declared.edit.EditCode.{EditCode}
use Rattle.edit_model.specs.declared.edit.EditCode.TheVariants.{UnknownName}
use Rattle.design_model.specs.declared.fault.Fault.{Fault}
use Rattle.design_model.specs.declared.mode.Section.{Section}
use Rattle.design_model.specs.declared.mode.Section.TheVariants.{Components, Pins, Nets, Blockages, Fills}
use Rattle.design_model.specs.EnumWords.{section_word}
use Rattle.def_grammar.specs.Records.{Record, read_def}
use Rattle.lef_grammar.specs.Library.{empty_library}
use Rattle.report_rules.specs.Output.{answer_to, asked_line, asked_counts, no_lines}
use Rattle.edit_rules.specs.Script.{shown, bad, ask, order_of, script_lines}
use Rattle.definition_examples.proofs.Computing.{def_texts}
use Rattle.definition_examples.proofs.DefRows.{units_line}

-- `show S n`: two words behind it, of which the first is a section
show_orders : map order_of (script_lines (codes "show COMPONENTS u1\n\tshow\tNETS  n[0]\r\nshow FILLS COMPONENTS\nshow components u1\nshow COMPONENTS\nshow\nshow COMPONENTS u1 x\nshow UNITS u1\nshows NETS n"))
    ≡ ask (shown Components (codes "u1")) ∷ ask (shown Nets (codes "n[0]")) ∷ ask (shown Fills (codes "COMPONENTS")) ∷ bad ∷ bad ∷ bad ∷ bad ∷ bad ∷ bad ∷ []
unfolding section_word
show_orders = refl

-- a design with an entry over two lines, a name in two sections, and entries without names
abbrev design : List ℕ
design = units_line ++ codes "COMPONENTS 2 ;\n- u1 INV\n  + PLACED ( 0 0 ) N ;\n- u2 INV ;\nEND COMPONENTS\nNETS 2 ;\n- u2 ( u1 Y ) ;\n- MUSTJOIN ( u2 A ) ;\nEND NETS\nBLOCKAGES 1 ;\n- LAYER m ;\nEND BLOCKAGES\nFILLS 1 ;\n- LAYER m ;\nEND FILLS\nEND DESIGN\n"

-- the answer of a text that reads as this
abbrev shown_if : Result (List Record) Fault → Section → List ℕ → Result (List ℕ) EditCode
shown_if (Ok records) s name = answer_to empty_library design records (shown s name)
shown_if (Err fault) s name = Ok []

abbrev show_of : Section → List ℕ → Result (List ℕ) EditCode
show_of s name = shown_if (read_def design) s name

-- its bytes from the - to the ;, and a line feed
shown_entries : (show_of Components (codes "u1") ≡ Ok (codes "- u1 INV\n  + PLACED ( 0 0 ) N ;\n")) × (show_of Nets (codes "u2") ≡ Ok (codes "- u2 ( u1 Y ) ;\n"))
unfolding def_texts
shown_entries = (refl, refl)

-- a name that isn't in the section, one of another section, and entries without names
none_shown : (show_of Components (codes "u3") ≡ Err UnknownName) × (show_of Pins (codes "u1") ≡ Err UnknownName) × (show_of Nets (codes "MUSTJOIN") ≡ Err UnknownName)
    × (show_of Blockages (codes "LAYER") ≡ Err UnknownName) × (show_of Fills (codes "LAYER") ≡ Err UnknownName)
unfolding def_texts
none_shown = (refl, refl, refl, refl, refl)

-- what is printed in line 3, and what is counted
shown_lines : (asked_line 3 (Ok (codes "- u2 INV ;\n")) ≡ codes "- u2 INV ;\n") × (asked_line 3 (Err UnknownName) ≡ codes "refused 3 E1\n")
    × (asked_counts (Ok (codes "- u2 INV ;\n")) no_lines ≡ no_lines) × (asked_counts (Err UnknownName) no_lines ≡ record { accepted = 0; refused = 1; bad = 0 })
unfolding digits
shown_lines = (refl, refl, refl, refl)
