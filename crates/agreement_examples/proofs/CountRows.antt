-- Worked rows of the lines on headers by section, by computing.
use Rattle.std.proofs.Common.{◌≡◌, List, [], ◌∷◌, Some, None, refl, codes}
use Rattle.design_model.specs.declared.mode.Section.TheVariants.{Components, Nets, Pins, Styles}
use Rattle.def_grammar.specs.Records.{Record, read_def}
use Rattle.entry_examples.proofs.Computing.{def_lines}
use Rattle.count_laws.specs.Counts.{header_number, section_lines}
use Rattle.agreement_examples.proofs.PartRows.{records_of}

-- two components under a header that says three, a style under one that says none, and a net under one that says one
abbrev design : List Record
design =
    records_of (read_def (codes "UNITS DISTANCE MICRONS 1 ;\nCOMPONENTS 3 ;\n- c M ;\n- d M ;\nEND COMPONENTS\nSTYLES 0 ;\n- STYLE 1 ;\nEND STYLES\nNETS +01 ;\n- n ;\nEND NETS\nEND DESIGN\n"))

other_numbers : (section_lines design Components ≡ codes "count COMPONENTS 3 2" ∷ []) × (section_lines design Styles ≡ codes "count STYLES 0 1" ∷ [])
unfolding def_lines
other_numbers = (refl, refl)

its_number : (header_number Nets design ≡ Some (codes "+01")) × (section_lines design Nets ≡ [])
unfolding def_lines
its_number = (refl, refl)

no_header : (header_number Pins design ≡ None) × (section_lines design Pins ≡ [])
unfolding def_lines
no_header = (refl, refl)
