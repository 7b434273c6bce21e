-- Statements outside of all sections (LEF/DEF 5.8 Language Reference, "DEF Syntax").
use Rattle.std.specs.Prelude.{◌⊎◌, ℕ, Bool, true, false, not, ◌||◌, List, [], ◌∷◌, Option, Some, None, codes, if◌then◌else◌}
use Rattle.std.proofs.Common.{inl, inr}
use Rattle.design_model.specs.declared.mode.Section.{Section}
use Rattle.design_model.specs.EnumWords.{section_word, sections}
use Rattle.form_meanings.specs.Words.{is_word, is_quoted}
use Rattle.form_meanings.specs.Meaning.{find}
use Rattle.statement_model.specs.Form.{Form, empty, word, number, one_of, tail, ◌▸◌, ◌◂◌, ◌⨟◌, alt, on}
use Rattle.def_grammar.specs.Numbers.{is_scale, is_count}
use Rattle.def_grammar.specs.Parts.{is_some}
use Rattle.def_grammar.specs.DieArea.{DieArea, die_area_statement}
use Rattle.def_grammar.specs.Extensions.{extension_statement}
use Rattle.def_grammar.specs.Grids.{Tracks, tracks_statement, GcellGrid, gcell_grid_statement}
use Rattle.def_grammar.specs.Rows.{Row, row_statement}

-- the area of the die, a row, routing tracks, or a grid
abbrev pub FloorRecord : Type 0
FloorRecord = DieArea ⊎ (Row ⊎ (Tracks ⊎ GcellGrid))

-- what such a statement says that opens no section
abbrev pub PlainRecord : Type 0
PlainRecord = List ℕ ⊎ (Unit {0} ⊎ (Unit {0} ⊎ (List (List ℕ) ⊎ (FloorRecord ⊎ (List ℕ × List (List ℕ))))))

-- what such a statement says
abbrev pub TopRecord : Type 0
TopRecord = (Section × List ℕ) ⊎ PlainRecord

-- a section's header, with its number of entries
pattern abbrev pub header : Section → List ℕ → TopRecord
header s n = inl (s, n)

pattern abbrev pub plain : PlainRecord → TopRecord
plain p = inr p

-- database units per micron
pattern abbrev pub units : List ℕ → TopRecord
units n = inr (inl n)

pattern abbrev pub end_design : TopRecord
end_design = inr (inr (inl tt))

-- PROPERTYDEFINITIONS, which opens these
pattern abbrev pub properties : TopRecord
properties = inr (inr (inr (inl tt)))

-- an extension, by its tokens up to ENDEXT
pattern abbrev pub extension : List (List ℕ) → TopRecord
extension tokens = inr (inr (inr (inr (inl tokens))))

pattern abbrev pub floor : FloorRecord → TopRecord
floor f = inr (inr (inr (inr (inr (inl f)))))

pattern abbrev pub die_area : DieArea → TopRecord
die_area area = inr (inr (inr (inr (inr (inl (inl area))))))

pattern abbrev pub row : Row → TopRecord
row r = inr (inr (inr (inr (inr (inl (inr (inl r)))))))

pattern abbrev pub tracks : Tracks → TopRecord
tracks t = inr (inr (inr (inr (inr (inl (inr (inr (inl t))))))))

pattern abbrev pub gcell_grid : GcellGrid → TopRecord
gcell_grid g = inr (inr (inr (inr (inr (inl (inr (inr (inr g))))))))

-- a statement without meaning, by its first token and the others
pattern abbrev pub kept : List ℕ → List (List ℕ) → TopRecord
kept w ws = inr (inr (inr (inr (inr (inr (w, ws))))))

-- of a statement that a text has once, its word
abbrev pub once : TopRecord → Option (List ℕ)
once (units n) = Some (codes "UNITS")
once properties = Some (codes "PROPERTYDEFINITIONS")
once (die_area area) = Some (codes "DIEAREA")
once _ = None

-- UNITS DISTANCE MICRONS int ;
unfoldable pub units_statement : Form (List ℕ)
units_statement = codes "DISTANCE" ▸ codes "MICRONS" ▸ number is_scale ◂ codes ";"

abbrev pub is_section : List ℕ → Bool
is_section w = is_some (find section_word sections w)

-- S int ;
unfoldable pub header_statement : Form (Section × List ℕ)
header_statement = one_of section_word sections ⨟ number is_count ◂ codes ";"

abbrev pub is_floor : List ℕ → Bool
is_floor w = is_word (codes "DIEAREA") w || is_word (codes "ROW") w || is_word (codes "TRACKS") w || is_word (codes "GCELLGRID") w

-- DIEAREA, ROW, TRACKS or GCELLGRID
unfoldable pub floor_statement : Form FloorRecord
floor_statement = on (codes "DIEAREA") die_area_statement (on (codes "ROW") row_statement (on (codes "TRACKS") tracks_statement (codes "GCELLGRID" ▸ gcell_grid_statement)))

-- a word that begins no kept statement
abbrev pub begins_none : List ℕ → Bool
begins_none w = is_quoted w || is_word (codes "-") w || is_word (codes "+") w || is_word (codes "(") w || is_word (codes ")") w

-- word any* ; or a lone ;
unfoldable pub kept_statement : Form (List ℕ × List (List ℕ))
kept_statement = word (λ w. not (begins_none w)) ⨟ tail

-- an extension, a statement about the floor, or one that is kept
abbrev pub other_statement : Form (List (List ℕ) ⊎ (FloorRecord ⊎ (List ℕ × List (List ℕ))))
other_statement = on (codes "BEGINEXT") extension_statement (alt is_floor floor_statement kept_statement)

-- a statement that opens no section
unfoldable pub plain_statement : Form PlainRecord
plain_statement = on (codes "UNITS") units_statement (on (codes "END") (codes "DESIGN" ▸ empty) (on (codes "PROPERTYDEFINITIONS") empty other_statement))

unfoldable pub top_statement : Form TopRecord
top_statement = alt is_section header_statement plain_statement
