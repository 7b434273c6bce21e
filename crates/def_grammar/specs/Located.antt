-- The statements of a text with their records: a component's by its name, an entry's by its section and its name, and its bytes.
use Rattle.std.specs.Prelude.{ℕ, Bool, false, ◌&&◌, List, [], ◌∷◌, zip, Option, Some, None, slice_range, if◌then◌else◌}
use Rattle.std.specs.Str.{bytes_eq}
use Rattle.design_model.specs.declared.mode.Section.{Section}
use Rattle.design_model.specs.EnumWords.{section_word}
use Rattle.statement_model.specs.Boundaries.{statements}
use Rattle.statement_model.specs.Cuts.{end_of_all}
use Rattle.statement_model.specs.Reading.{pos_of}
use Rattle.statement_model.specs.Tokens.{Token, tokens}
use Rattle.def_grammar.specs.Components.{Component}
use Rattle.def_grammar.specs.Records.{Entry, Record, component_of, def_ending, entry_of, section_of, name_of}

-- the statements of a text with their records
abbrev pub located : List ℕ → List Record → List (List Token × Record)
located text design = zip (statements def_ending [] (tokens text).pieces).0 design

-- the entry of a component: its tokens, and what it says
abbrev pub component_if : List ℕ → List Token → Option Component → Option (List Token × Component)
component_if name ps None = None
component_if name ps (Some c) = if bytes_eq c.name name then Some (ps, c) else None

abbrev pub or_later : {A : Type 0} → Option A → Option A → Option A
or_later (Some a) later = Some a
or_later None later = later

abbrev pub component_at : List ℕ → List (List Token × Record) → Option (List Token × Component)
component_at name [] = None
component_at name (s ∷ ss) = or_later (component_if name s.0 (component_of s.1)) (component_at name ss)

-- a name is this one
abbrev pub is_named : List ℕ → Option (List ℕ) → Bool
is_named name None = false
is_named name (Some own) = bytes_eq own name

-- an entry of this section has this name
abbrev pub is_entry : Section → List ℕ → Option Entry → Bool
is_entry s name None = false
is_entry s name (Some e) = bytes_eq (section_word (section_of e)) (section_word s) && is_named name (name_of e)

-- the first entry of this section and this name, with its tokens
abbrev pub entry_at : Section → List ℕ → List (List Token × Record) → Option (List Token × Record)
entry_at s name [] = None
entry_at s name (x ∷ xs) = if is_entry s name (entry_of x.1) then Some x else entry_at s name xs

-- the bytes of a statement, from its first token to its last
abbrev pub bytes_of : List ℕ → List Token → List ℕ
bytes_of text ps = slice_range text (pos_of ps) (end_of_all ps)
