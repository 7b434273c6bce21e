-- Lines on the numbers in sections' headers, section by section.
use Rattle.std.specs.Prelude.{◌≡◌, ℕ, List, [], ◌∷◌, length, flat_map, Option, Some, None, Ok, if◌then◌else◌}
use Rattle.design_model.specs.declared.mode.Section.{Section}
use Rattle.design_model.specs.EnumWords.{sections}
use Rattle.def_grammar.specs.Numbers.{int_of}
use Rattle.def_grammar.specs.Records.{Record, top, read_def}
use Rattle.def_grammar.specs.Top.{header}
use Rattle.design_rules.specs.CountLines.{count_lines, count_of}
use Rattle.edit_rules.specs.SectionEdits.{entries_in, is_section}
use Rattle.line_laws.specs.Lines.{SameLines}

-- the sections that a header may name
abbrev pub all_sections : List Section
all_sections = sections

-- the number that the header of a section says, if the design has one
abbrev pub header_number : Section → List Record → Option (List ℕ)
header_number s [] = None
header_number s (top (header t n) ∷ rs) = if is_section s t then Some n else header_number s rs
header_number s (_ ∷ rs) = header_number s rs

-- the line on a header that says this number, where there is one, of a section with so many entries
abbrev pub header_lines : Section → ℕ → Option (List ℕ) → List (List ℕ)
header_lines s found None = []
header_lines s found (Some n) = count_of s (int_of n) found

-- the line on a section: none where it has no header
abbrev pub section_lines : List Record → Section → List (List ℕ)
section_lines design s = header_lines s (length (entries_in s design)) (header_number s design)

-- In a text that reads the lines on headers are those of its sections, in whatever order.
abbrev pub CountsAreBySection : Type 0
CountsAreBySection = (text : List ℕ) (design : List Record) → read_def text ≡ Ok design → SameLines (count_lines design) (flat_map (section_lines design) all_sections)
