-- Lines on the numbers in sections' headers (own).
use Rattle.std.specs.Prelude.{ℕ, ◌+◌, Bool, ◌&&◌, List, [], ◌∷◌, ◌++◌, ℤ, pos, if◌then◌else◌}
use Rattle.std.specs.Int.Signed.{le_z}
use Rattle.design_model.specs.declared.diagnostic.DiagKind.TheVariants.{Count}
use Rattle.design_model.specs.declared.mode.Section.{Section}
use Rattle.design_model.specs.EnumWords.{section_word}
use Rattle.design_model.specs.Lines.{line_text}
use Rattle.def_grammar.specs.Numbers.{int_of}
use Rattle.def_grammar.specs.Top.{header}
use Rattle.def_grammar.specs.Records.{Record, top, entry, end_section}

-- how many entries stand before the section's end
abbrev pub entries : List Record → ℕ
entries [] = 0
entries (end_section s ∷ rs) = 0
entries (entry e ∷ rs) = 1 + entries rs
entries (_ ∷ rs) = entries rs

-- a number is this one
abbrev pub is_number : ℕ → ℤ → Bool
is_number k z = le_z (pos k) z && le_z z (pos k)

-- `count S d k`: the header of S says d, and it has k entries
abbrev pub count_line : Section → ℤ → ℕ → List ℕ
count_line s said found = line_text Count (section_word s ∷ []) (said ∷ pos found ∷ [])

abbrev pub count_of : Section → ℤ → ℕ → List (List ℕ)
count_of s said found = if is_number found said then [] else count_line s said found ∷ []

-- a line for each header that says another number than that of its entries
abbrev pub count_lines : List Record → List (List ℕ)
count_lines [] = []
count_lines (top (header s n) ∷ rs) = count_of s (int_of n) (entries rs) ++ count_lines rs
count_lines (_ ∷ rs) = count_lines rs
