-- What look-ups find among statements with their numbers.
use Rattle.std.specs.Prelude.{◌≡◌, ◌==◌, ℕ, Bool, true, false, not, ◌&&◌, ◌||◌, List, filter, map, Option, Some, None}
use Rattle.std.specs.List.{filter_map, list_any}
use Rattle.std.specs.Str.{bytes_eq}
use Rattle.design_model.specs.declared.identifier.StmtId.{StmtId}
use Rattle.design_model.specs.declared.mode.Section.{Section}
use Rattle.design_model.specs.EnumWords.{section_word}
use Rattle.def_grammar.specs.Located.{is_entry}
use Rattle.def_grammar.specs.Records.{Entry, Record, end_section, entry_of, section_of, top}
use Rattle.def_grammar.specs.Terminals.{Terminal, is_of_all, is_of_design, is_virtual}
use Rattle.def_grammar.specs.Top.{header}
use Rattle.design_tables.specs.Marks.{same_role, terminals_of}
use Rattle.design_tables.specs.declared.role.Mark.{Mark}
use Rattle.design_tables.specs.declared.role.Role.{Role}

abbrev pub is_number : StmtId → StmtId → Bool
is_number a b = a.0 == b.0

-- a statement of this number passes a test
abbrev pub numbers_one : (Record → Bool) → List (StmtId × Record) → StmtId → Bool
numbers_one test xs id = list_any (λ (x : StmtId × Record). is_number id x.0 && test x.1) xs

-- the number of a statement that passes a test; there is none where none passes
abbrev pub Finds : (Record → Bool) → List (StmtId × Record) → Option StmtId → Type 0
Finds test xs None = list_any (λ (x : StmtId × Record). test x.1) xs ≡ false
Finds test xs (Some id) = numbers_one test xs id ≡ true

-- the numbers of all statements that pass a test, and no others
abbrev pub FindsAll : (Record → Bool) → List (StmtId × Record) → List StmtId → Type 0
FindsAll test xs ids = (id : StmtId) → list_any (is_number id) ids ≡ numbers_one test xs id

abbrev pub is_section : Section → Section → Bool
is_section s t = bytes_eq (section_word s) (section_word t)

-- the numbers of the marks that have a role
abbrev pub ids_with : Role → List Mark → List StmtId
ids_with role ms = map (λ (m : Mark). m.id) (filter (λ (m : Mark). same_role m.role role) ms)

-- the entry of a name in a section
abbrev pub is_named_entry : Section → List ℕ → Record → Bool
is_named_entry s name r = is_entry s name (entry_of r)

-- the header of a section, and its END
abbrev pub is_header : Section → Record → Bool
is_header s (top (header t n)) = is_section s t
is_header s _ = false

abbrev pub is_end : Section → Record → Bool
is_end s (end_section t) = is_section s t
is_end s _ = false

-- an entry of NETS or SPECIALNETS that lists a terminal which passes a test
abbrev pub entry_lists : (Terminal → Bool) → Option Entry → Bool
entry_lists test None = false
entry_lists test (Some e) = list_any test (terminals_of e)

-- a pin of the component of this name; the pin of this name of the design; the pins of this name of all components
abbrev pub is_of : List ℕ → Terminal → Bool
is_of name t = not (is_of_all t || is_virtual t || is_of_design t) && bytes_eq t.owner name

abbrev pub is_design_pin : List ℕ → Terminal → Bool
is_design_pin name t = not (is_of_all t) && is_of_design t && bytes_eq t.pin name

abbrev pub is_star_pin : List ℕ → Terminal → Bool
is_star_pin name t = is_of_all t && bytes_eq t.pin name

abbrev pub lists : (Terminal → Bool) → Record → Bool
lists test r = entry_lists test (entry_of r)

-- the entries of a section
abbrev pub entries_of : Section → List (StmtId × Record) → List Entry
entries_of s xs = filter (λ e. is_section s (section_of e)) (filter_map (λ (x : StmtId × Record). entry_of x.1) xs)
