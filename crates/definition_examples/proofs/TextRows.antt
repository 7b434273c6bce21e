-- Worked rows of text edits, of the lines of a report, and of a script's lines, by computing.
use Rattle.std.proofs.Common.{◌≡◌, ◌++◌, List, ℕ, [], ◌∷◌, Ok, Err, Result, Option, Some, None, refl, codes, pos, ◌+◌, take, drop, map}
use Rattle.std.specs.Fmt.{digits}
use Rattle.design_model.specs.declared.fault.Fault.{Fault}
use Rattle.design_model.specs.declared.fault.FaultCode.{FaultCode}
use Rattle.design_model.specs.declared.fault.FaultCode.TheVariants.{OpenString, NoForm, Unfinished, NameTaken}
use Rattle.edit_model.specs.declared.edit.EditCode.TheVariants.{Number, Range}
use Rattle.edit_model.specs.declared.edit.EditRefusal.{EditRefusal}
use Rattle.edit_model.specs.declared.edit.EditRefusal.TheVariants.{Refused, Unreadable}
use Rattle.design_model.specs.declared.geometry.Orient.TheVariants.{N}
use Rattle.design_model.specs.declared.geometry.Status.TheVariants.{Placed}
use Rattle.design_model.specs.declared.mode.Section.TheVariants.{Components}
use Rattle.design_model.specs.EnumWords.{orient_word, section_word}
use Rattle.design_model.specs.Units.{whole, distance}
use Rattle.statement_model.specs.Reading.{fault_at}
use Rattle.def_grammar.specs.Components.{placed}
use Rattle.def_grammar.specs.Top.{units, header, end_design}
use Rattle.def_grammar.specs.Records.{Record, top, end_section, entry, component, read_def}
use Rattle.lef_grammar.specs.Library.{Library, empty_library}
use Rattle.design_rules.specs.Boxes.{Boxed}
use Rattle.report_rules.specs.Diagnostics.{diagnostics}
use Rattle.edit_rules.specs.Edits.{place}
use Rattle.design_model.specs.Families.{pair_lines}
use Rattle.design_rules.specs.OverlapLines.{overlap_of}
use Rattle.edit_rules.specs.Runs.{design_edit, text_edit, text_outcome}
use Rattle.edit_rules.specs.Script.{report, nothing, make, refuse, ask, bad, order_of, script_lines, unescaped}
use Rattle.connection_examples.proofs.NetTexts as net_texts
use Rattle.connection_examples.proofs.NetTexts.{net_words}
use Rattle.place_rules.specs.Covering.{is_covered}
use Rattle.definition_examples.proofs.DefRows.{two}

-- bytes put in place of those from a up to b of the text of two components leave a text with this fault
abbrev Spoils : ℕ → ℕ → List ℕ → FaultCode → ℕ → Type 0
Spoils a b put code at = text_outcome two a b put ≡ Err (Unreadable (fault_at code at))

-- a library with the macro and the site that the texts name, neither of which has a SIZE
abbrev names_library : Library
names_library = record empty_library {
  sites = record { name = codes "core"; size = None } ∷ [];
  macros = record { name = codes "INV"; class = None; size = None; origin = None; sites = []; pins = [] } ∷ [];
}

-- the lines of a text's report, with that library, where it reads
abbrev report_of : Result (List Record) Fault → Option (List (List ℕ))
report_of (Ok design) = Some (diagnostics names_library design)
report_of (Err fault) = None

-- the same of the text after a text edit, where it is accepted
abbrev report_after : Result (List ℕ) EditRefusal → Option (List (List ℕ))
report_after (Ok new) = report_of (read_def new)
report_after (Err refusal) = None

-- a comment put before END DESIGN, which runs on to the line's end
end_in_a_comment : Spoils 241 241 (codes "#") Unfinished 253
unfolding net_words
end_in_a_comment = refl

-- nothing put in place of nothing
nothing_put : text_outcome two 252 252 [] ≡ Ok two
unfolding net_words
nothing_put = refl

-- a range that ends behind the text, and one whose ends are turned
out_of_range : (text_outcome two 253 253 (codes "x") ≡ Err (Refused Range)) × (text_outcome two 5 4 (codes "x") ≡ Err (Refused Range))
out_of_range = (refl, refl)

-- a quote without another
open_string : Spoils 188 188 (codes "\"") OpenString 188
unfolding net_words
open_string = refl

-- END COMPONENTS taken out
no_end : Spoils 226 240 [] NoForm 227
unfolding net_words
no_end = refl

-- the first component named as the second
same_name : Spoils 185 187 (codes "u2") NameTaken 194
unfolding net_words
same_name = refl

-- the first component without its name, whose cell is read as it
no_name : Spoils 185 187 [] NoForm 183
unfolding net_words
no_name = refl

-- a ; more, which is a statement of its own
one_more_end : Spoils 192 192 (codes "; ") NoForm 194
unfolding net_words
one_more_end = refl

-- a comment that runs on over the next line, as its line feed is taken out: over the second entry, which the header still
-- counts, and over the end of the section
comment_runs_on : (report_after (text_outcome two 193 194 (codes " #")) ≡ Some (codes "count COMPONENTS 2 1" ∷ [])) × Spoils 225 226 (codes " # ") NoForm 243
unfolding net_words
comment_runs_on = (refl, refl)

-- a # behind a byte of a word begins no comment: the two entries are one
no_comment : report_after (text_outcome two 193 194 (codes "#")) ≡ Some (codes "count COMPONENTS 2 1" ∷ [])
unfolding net_words is_covered
no_comment = refl

-- an entry that becomes two
two_of_one : report_after (text_outcome two 188 188 (codes "INV ; - u3 ")) ≡ Some (codes "count COMPONENTS 2 3" ∷ [])
unfolding net_words is_covered
two_of_one = refl

-- bytes put in anew after they were taken out
put_back : text_outcome (take 185 two ++ drop 187 two) 185 185 (codes "u1") ≡ Ok two
unfolding net_words
put_back = refl

-- a design whose header says this number of entries, and then has these
abbrev counting : List ℕ → List ℕ → List ℕ
counting number entries = codes "UNITS DISTANCE MICRONS 1000 ;\nCOMPONENTS " ++ (number ++ (codes " ;\n" ++ (entries ++ codes "END COMPONENTS\nEND DESIGN\n")))

abbrev report_counting : List ℕ → List ℕ → Option (List (List ℕ))
report_counting number entries = report_of (read_def (counting number entries))

-- as many entries as the header says, however its number is written
counted_well : (report_counting (codes "2") (codes "- a INV ;\n- b INV ;\n") ≡ Some []) × (report_counting (codes "+2") (codes "- a INV ;\n- b INV ;\n") ≡ Some [])
    × (report_counting (codes "002") (codes "- a INV ;\n- b INV ;\n") ≡ Some []) × (report_counting (codes "-0") [] ≡ Some [])
unfolding net_words
counted_well = (refl, refl, refl, refl)

-- more or fewer of them, and none; the number is written without its sign and zeros
counted_ill : (report_counting (codes "3") (codes "- a INV ;\n- b INV ;\n") ≡ Some (codes "count COMPONENTS 3 2" ∷ []))
    × (report_counting (codes "+01") (codes "- a INV ;\n- b INV ;\n") ≡ Some (codes "count COMPONENTS 1 2" ∷ []))
    × (report_counting (codes "1") [] ≡ Some (codes "count COMPONENTS 1 0" ∷ []))
unfolding net_words
counted_ill = (refl, refl, refl)

-- a text without the section
no_section : report_of (read_def (codes "UNITS DISTANCE MICRONS 1000 ;\nEND DESIGN\n")) ≡ Some []
unfolding net_words
no_section = refl

-- a header's line stands before that of two components that overlap
count_first : diagnostics (record { layers = []; sites = []; vias = []; rules = []; macros = record { name = codes "INV"; class = None; size = Some (record { value = pos 92; places = 2 }, record { value = pos 272; places = 2 }); origin = None; sites = []; pins = [] } ∷ [] }) (top (units (codes "1000"))
    ∷ top (header Components (codes "3"))
    ∷ entry (component (record { name = codes "b"; cell = codes "INV"; rest = []; clauses = placed Placed (record { x = codes "0"; y = codes "0" }) N ∷ [] }))
    ∷ entry (component (record { name = codes "a"; cell = codes "INV"; rest = []; clauses = placed Placed (record { x = codes "919"; y = codes "0" }) N ∷ [] }))
    ∷ end_section Components
    ∷ top end_design
    ∷ [])
    ≡ codes "count COMPONENTS 3 2" ∷ codes "overlap a b" ∷ []
unfolding net_words whole distance section_word digits
count_first = refl

-- a box of height 2 and width 2, whose left side is here
abbrev box_from : List ℕ → ℕ → Boxed
box_from name x = record { name = name; box = record { x1 = pos x; y1 = pos 0; x2 = pos (x + 2); y2 = pos 2 }; orient = N; class = None; sites = []; region = None }

-- all pairs of three boxes in their order, each by the lesser name first; only the neighbours; and none, where they touch
three_boxes : (pair_lines overlap_of (box_from (codes "c") 0 ∷ box_from (codes "a") 1 ∷ box_from (codes "b") 1 ∷ []) ≡ codes "overlap a c" ∷ codes "overlap b c" ∷ codes "overlap a b" ∷ [])
    × (pair_lines overlap_of (box_from (codes "c") 0 ∷ box_from (codes "a") 1 ∷ box_from (codes "b") 2 ∷ []) ≡ codes "overlap a c" ∷ codes "overlap a b" ∷ [])
    × (pair_lines overlap_of (box_from (codes "c") 0 ∷ box_from (codes "a") 2 ∷ box_from (codes "b") 4 ∷ []) ≡ [])
three_boxes = (refl, refl, refl)

-- lines of a script: blanks, a comment, a wrong number of words, a carriage return before a line feed and one at the end
orders : map order_of (script_lines (codes " \t\n#x\n #x\ncheck\r\nplace u 1 x N\nplace u 1 2 Q\nplace u 1 2\nplace u 1 2 N x\ncheck x\ncheck\r"))
    ≡ nothing ∷ nothing ∷ bad ∷ ask report ∷ make (design_edit (place (codes "u") (pos 1) (pos 2147483648) N)) ∷ bad ∷ bad ∷ bad ∷ bad ∷ bad ∷ []
unfolding orient_word whole
orders = refl

-- `text a b NEW`: NEW begins one byte behind b's end, may hold blanks and #, and may be empty
text_orders : map order_of (script_lines (codes "text 5 4 x\n \t text\t5  4 x\ntext 5 4  x\ntext 5 4\tx\ntext 5 4\t\tx \ntext 5 4 x # y\ntext 5 4 \ntext 5 4\r\ntext +5 04 x\r"))
    ≡ make (text_edit 5 4 (codes "x"))
    ∷ make (text_edit 5 4 (codes "x"))
    ∷ make (text_edit 5 4 (codes " x"))
    ∷ make (text_edit 5 4 (codes "x"))
    ∷ make (text_edit 5 4 (codes "\tx "))
    ∷ make (text_edit 5 4 (codes "x # y"))
    ∷ make (text_edit 5 4 [])
    ∷ make (text_edit 5 4 [])
    ∷ make (text_edit 5 4 (codes "x\r"))
    ∷ []
unfolding whole unescaped
text_orders = refl

-- the escapes, and a backslash that begins none or is the last byte
escapes : map order_of (script_lines (codes "text 0 0 a\\nb\ntext 0 0 \\r\\t\\\\\ntext 0 0 \\\\n\ntext 0 0 \\q\ntext 0 0 \\N\ntext 0 0 a\\\ntext 0 0 \\"))
    ≡ make (text_edit 0 0 (codes "a\nb"))
    ∷ make (text_edit 0 0 (13 ∷ 9 ∷ 92 ∷ []))
    ∷ make (text_edit 0 0 (92 ∷ 110 ∷ []))
    ∷ bad
    ∷ bad
    ∷ bad
    ∷ bad
    ∷ []
unfolding whole unescaped
escapes = refl

-- ends that are no numbers, or numbers out of their range, before ends below 0; a bad line before both
text_refusals : map order_of (script_lines (codes "text x 0\ntext 0 x\ntext -1 x\ntext 0 2147483648\ntext -1 0 y\ntext 0 -1\ntext -0 0\ntext x -1 \\q\ntext 1\ntext\ntexts 1 2 x"))
    ≡ refuse Number ∷ refuse Number ∷ refuse Number ∷ refuse Number ∷ refuse Range ∷ refuse Range ∷ make (text_edit 0 0 []) ∷ bad ∷ bad ∷ bad ∷ bad ∷ []
unfolding whole unescaped
text_refusals = refl

-- the lines of a text's report, with a library of layers and pins
abbrev report_on_nets : Result (List Record) Fault → Option (List (List ℕ))
report_on_nets (Ok design) = Some (diagnostics net_texts.library design)
report_on_nets (Err fault) = None

-- two thousand units a micron: the wire ends one unit before the input
in_the_units_of_the_text : report_on_nets (read_def (codes "UNITS DISTANCE MICRONS 2000 ;\nCOMPONENTS 2 ;\n- u1 INV + COVER ( 0 0 ) N ;\n- u2 INV + COVER ( 1840 0 ) N ;\nEND COMPONENTS\nNETS 1 ;\n- n1 ( u1 Y ) ( u2 A ) + ROUTED met1 ( 1400 2200 ) ( 1899 * ) ;\nEND NETS\nEND DESIGN\n"))
    ≡ Some (codes "open n1 2" ∷ [])
unfolding net_words
in_the_units_of_the_text = refl
