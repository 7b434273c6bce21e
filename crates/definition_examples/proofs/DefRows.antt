-- Worked rows of reading DEF, by computing.
use Rattle.std.proofs.Common.{◌≡◌, ◌++◌, List, ℕ, [], ◌∷◌, Some, None, Ok, Err, refl, codes, length, take, drop}
use Rattle.design_model.specs.declared.fault.FaultCode.{FaultCode}
use Rattle.design_model.specs.declared.fault.FaultCode.TheVariants.{RefusedByte, OpenString, NoForm, Unfinished, Number, NameTaken, Repeated, NoUnits}
use Rattle.design_model.specs.declared.geometry.Orient.TheVariants.{N}
use Rattle.design_model.specs.declared.geometry.Status.TheVariants.{Placed}
use Rattle.design_model.specs.declared.mode.Section.TheVariants.{Components, Nets}
use Rattle.design_model.specs.EnumWords.{section_word}
use Rattle.statement_model.specs.Grammar.{Key}
use Rattle.statement_model.specs.Reading.{fault_at, repeats}
use Rattle.def_grammar.specs.Components.{placed}
use Rattle.def_grammar.specs.Top.{units, header, properties, end_design, die_area, row, kept}
use Rattle.def_grammar.specs.DieArea.{DieArea}
use Rattle.def_grammar.specs.Rows.{Row}
use Rattle.def_grammar.specs.Records.{Record, top, end_section, entry, component, entry_key, key_of, read_def}
use Rattle.definition_examples.proofs.Computing.{def_texts}
use Rattle.definition_examples.proofs.FormTexts.{pt}

-- the text has this fault
abbrev IsRefused : List ℕ → FaultCode → ℕ → Type 0
IsRefused text code pos = read_def text ≡ Err (fault_at code pos)

abbrev pub units_line : List ℕ
units_line = codes "UNITS DISTANCE MICRONS 1000 ;\n"

abbrev diearea_line : List ℕ
diearea_line = codes "DIEAREA ( 0 0 ) ( 9200 2720 ) ;\n"

-- what stands before the second component of the text below
abbrev front : List ℕ
front =
    codes "VERSION 5.8 ;\nDIVIDERCHAR \"/\" ;\nBUSBITCHARS \"[]\" ;\nDESIGN top ;\n" ++ units_line ++ diearea_line
    ++ codes "ROW r0 core 0 0 N DO 20 BY 1 STEP 460 0 ;\nCOMPONENTS 2 ;\n- u1 INV ;\n"

-- a text with two components, the second of them placed
abbrev pub two : List ℕ
two = front ++ codes "- u2 INV + PLACED ( 920 0 ) N ;\nEND COMPONENTS\nEND DESIGN\n"

abbrev area_of_two : DieArea
area_of_two = record { first = pt (codes "0") (codes "0"); second = pt (codes "9200") (codes "2720"); others = [] }

abbrev pub row_of_two : Row
row_of_two = record {
  name = codes "r0";
  site = codes "core";
  origin = pt (codes "0") (codes "0");
  orient = N;
  sites = Some (record { columns = codes "20"; rows = codes "1"; step = Some (pt (codes "460") (codes "0")) });
  clauses = [];
}

abbrev two_records : List Record
two_records =
    top (kept (codes "VERSION") (codes "5.8" ∷ codes ";" ∷ []))
    ∷ top (kept (codes "DIVIDERCHAR") (codes "\"/\"" ∷ codes ";" ∷ []))
    ∷ top (kept (codes "BUSBITCHARS") (codes "\"[]\"" ∷ codes ";" ∷ []))
    ∷ top (kept (codes "DESIGN") (codes "top" ∷ codes ";" ∷ []))
    ∷ top (units (codes "1000"))
    ∷ top (die_area area_of_two)
    ∷ top (row row_of_two)
    ∷ top (header Components (codes "2"))
    ∷ entry (component (record { name = codes "u1"; cell = codes "INV"; rest = []; clauses = [] }))
    ∷ entry (component (record { name = codes "u2"; cell = codes "INV"; rest = []; clauses = placed Placed (record { x = codes "920"; y = codes "0" }) N ∷ [] }))
    ∷ end_section Components
    ∷ top end_design
    ∷ []

two_is_252_long : length two ≡ 252
two_is_252_long = refl

-- an empty text ends before END DESIGN
empty_text : IsRefused [] Unfinished 0
unfolding def_texts
empty_text = refl

-- UNITS missing
no_units : IsRefused (codes "END DESIGN\n") NoUnits 11
unfolding def_texts
no_units = refl

-- the least text
least : read_def (units_line ++ codes "END DESIGN\n") ≡ Ok (top (units (codes "1000")) ∷ top end_design ∷ [])
unfolding def_texts
least = refl

-- the text reads, and also without its last byte
two_read : (read_def two ≡ Ok two_records) × (read_def (take 251 two) ≡ Ok two_records)
unfolding def_texts
two_read = (refl, refl)

-- cut off within the words of END COMPONENTS and END DESIGN
cut_within_an_end : IsRefused (take 231 two) NoForm 226 × IsRefused (take 239 two) NoForm 226 × IsRefused (take 246 two) NoForm 241 × IsRefused (take 250 two) NoForm 241
unfolding def_texts
cut_within_an_end = (refl, refl, refl, refl)

-- cut off within a string
cut_within_a_string : IsRefused (take 27 two) OpenString 26 × IsRefused (take 45 two) OpenString 44
unfolding def_texts
cut_within_a_string = (refl, refl)

-- cut off within a statement
cut_within_a_statement : IsRefused (take 230 two) Unfinished 226 × IsRefused (take 100 two) Unfinished 94
unfolding def_texts
cut_within_a_statement = (refl, refl)

-- a control byte in place of the sixth byte
control_byte : IsRefused (take 5 two ++ 127 ∷ drop 6 two) RefusedByte 5
unfolding def_texts
control_byte = refl

-- a component of a name that stands right before, and of one that stands further before
name_taken : IsRefused (front ++ codes "- u1 INV + PLACED ( 920 0 ) N ;\nEND COMPONENTS\nEND DESIGN\n") NameTaken 194 × IsRefused (front ++ codes "- u2 INV ;\n- u1 INV ;\nEND COMPONENTS\nEND DESIGN\n") NameTaken 205
unfolding def_texts
name_taken = (refl, refl)

-- a second statement of which a text has one
repeated : IsRefused (units_line ++ units_line ++ codes "END DESIGN\n") Repeated 30 × IsRefused (units_line ++ diearea_line ++ diearea_line ++ codes "END DESIGN\n") Repeated 62
unfolding def_texts
repeated = (refl, refl)

-- a second section of a kind, and a statement without meaning again, which is no repeat
section_repeated : IsRefused (units_line ++ codes "COMPONENTS 0 ;\nEND COMPONENTS\nCOMPONENTS 0 ;\nEND COMPONENTS\nEND DESIGN\n") Repeated 60
    × (read_def (units_line ++ codes "DESIGN a ;\nDESIGN a ;\nEND DESIGN\n")
    ≡ Ok (top (units (codes "1000")) ∷ top (kept (codes "DESIGN") (codes "a" ∷ codes ";" ∷ [])) ∷ top (kept (codes "DESIGN") (codes "a" ∷ codes ";" ∷ [])) ∷ top end_design ∷ []))
unfolding def_texts
section_repeated = (refl, refl)

-- what of a record a text has once: UNITS, DIEAREA, PROPERTYDEFINITIONS, a section, and a name in its section; of other
-- records nothing
keys : (key_of (top (units (codes "1000"))) ≡ codes "UNITS" ∷ [])
    × (key_of (top (die_area area_of_two)) ≡ codes "DIEAREA" ∷ [])
    × (key_of (top properties) ≡ codes "PROPERTYDEFINITIONS" ∷ [])
    × (key_of (top (header Nets (codes "2"))) ≡ codes "NETS" ∷ [])
    × (key_of (entry (component (record { name = codes "u"; cell = codes "INV"; rest = []; clauses = [] }))) ≡ codes "COMPONENTS" ∷ codes "u" ∷ [])
    × (key_of (top (row row_of_two)) ≡ [])
    × (key_of (top (kept (codes "DESIGN") (codes ";" ∷ []))) ≡ [])
    × (key_of (end_section Components) ≡ [])
    × (key_of (top end_design) ≡ [])
unfolding section_word
keys = (refl, refl, refl, refl, refl, refl, refl, refl, refl)

-- what stands after UNITS, the header of COMPONENTS, and a component u
abbrev some_keys : List Key
some_keys = entry_key Components (Some (codes "u")) ∷ (codes "COMPONENTS" ∷ []) ∷ (codes "UNITS" ∷ []) ∷ []

-- UNITS again, a section again, and a name again in its section are repeats
repeats_found : (repeats some_keys (codes "UNITS" ∷ []) ≡ Some Repeated)
    × (repeats some_keys (codes "COMPONENTS" ∷ []) ≡ Some Repeated)
    × (repeats some_keys (entry_key Components (Some (codes "u"))) ≡ Some NameTaken)
unfolding section_word
repeats_found = (refl, refl, refl)

-- the same name in another section is none, nor is another name, one that is longer, another statement, and what has no key
repeats_not_found : (repeats some_keys (entry_key Nets (Some (codes "u"))) ≡ None)
    × (repeats some_keys (entry_key Components (Some (codes "v"))) ≡ None)
    × (repeats some_keys (entry_key Components (Some (codes "uu"))) ≡ None)
    × (repeats some_keys (codes "NETS" ∷ []) ≡ None)
    × (repeats some_keys (entry_key Components None) ≡ None)
unfolding section_word
repeats_not_found = (refl, refl, refl, refl, refl)

-- a component of the name of its section
named_as_section : read_def (units_line ++ codes "COMPONENTS 1 ;\n- COMPONENTS INV ;\nEND COMPONENTS\nEND DESIGN\n")
    ≡ Ok (top (units (codes "1000"))
    ∷ top (header Components (codes "1"))
    ∷ entry (component (record { name = codes "COMPONENTS"; cell = codes "INV"; rest = []; clauses = [] }))
    ∷ end_section Components
    ∷ top end_design
    ∷ [])
unfolding def_texts
named_as_section = refl

-- a word that is no number, and a number out of its range
bad_number : IsRefused (codes "UNITS DISTANCE MICRONS x ;") Number 23 × IsRefused (codes "UNITS DISTANCE MICRONS 0 ;") Number 23
unfolding def_texts
bad_number = (refl, refl)

-- a - does not stand for a number
no_number : IsRefused (codes "UNITS DISTANCE MICRONS - ;") NoForm 0
unfolding def_texts
no_number = refl

-- a statement that a string cuts off, and one that has no form; and which fault of two comes first: that of a whole
-- statement, where white space ends it, and that of the byte, where it stands in the statement's last word
first_fault : IsRefused (units_line ++ codes "END \"x\n") OpenString 34 × IsRefused (units_line ++ codes "END ;\n") NoForm 30 × IsRefused (codes ") ; " ++ 127 ∷ []) NoForm 0 × IsRefused (codes ") ;" ++ 127 ∷ []) RefusedByte 3
unfolding def_texts
first_fault = (refl, refl, refl, refl)
