-- How the statements of a DEF text have to do with names.
use Rattle.std.specs.Prelude.{ℕ, Bool, true, false, List, [], ◌∷◌, ◌++◌, flat_map, Option, Some, None, if◌then◌else◌}
use Rattle.std.specs.Option.{option_map, option_to_list}
use Rattle.std.specs.Str.{bytes_eq}
use Rattle.design_model.specs.EnumWords.{section_word}
use Rattle.statement_model.specs.Grammar.{Key}
use Rattle.def_grammar.specs.Nets.{is_net}
use Rattle.def_grammar.specs.Records.{Entry, Record, end_section, entry, entry_of, key_of, name_of, net, section_of, special_net}
use Rattle.def_grammar.specs.Terminals.{Terminal, is_of_all, is_of_design, is_virtual}
use Rattle.design_tables.specs.declared.role.Role.{Role}
use Rattle.design_tables.specs.declared.role.Role.TheVariants as roles

-- the same role: entries have it where their sections have the same word
abbrev pub same_role : Role → Role → Bool
same_role roles.Statement roles.Statement = true
same_role roles.SectionEnd roles.SectionEnd = true
same_role roles.Member roles.Member = true
same_role (roles.Entry s) (roles.Entry t) = bytes_eq (section_word s) (section_word t)
same_role roles.Component roles.Component = true
same_role roles.DesignPin roles.DesignPin = true
same_role roles.StarPin roles.StarPin = true
same_role _ _ = false

-- a statement that a text has once, by its word
abbrev pub word_mark : Key → Option (List ℕ × Role)
word_mark (word ∷ []) = Some (word, roles.Statement)
word_mark _ = None

-- an entry by its name
abbrev pub entry_mark : Entry → Option (List ℕ × Role)
entry_mark e = option_map (λ name. (name, roles.Entry (section_of e))) (name_of e)

-- a statement by what of it a text has once
abbrev pub key_mark : Record → Option (List ℕ × Role)
key_mark (entry e) = entry_mark e
key_mark r = word_mark (key_of r)

abbrev pub own_mark : Record → Option (List ℕ × Role)
own_mark (end_section s) = Some (section_word s, roles.SectionEnd)
own_mark r = key_mark r

-- the terminals of an entry
abbrev pub terminals_of : Entry → List Terminal
terminals_of (net (is_net n)) = n.terminals
terminals_of (special_net n) = n.terminals
terminals_of _ = []

-- an entry of NETS or SPECIALNETS by what it lists; a virtual pin is none
abbrev pub terminal_mark : Terminal → Option (List ℕ × Role)
terminal_mark t =
    if is_of_all t then Some (t.pin, roles.StarPin)
    else (if is_of_design t then Some (t.pin, roles.DesignPin)
    else (if is_virtual t then None
    else Some (t.owner, roles.Component)))

abbrev pub terminal_marks : Terminal → List (List ℕ × Role)
terminal_marks t = option_to_list (terminal_mark t)

abbrev pub entry_marks : Option Entry → List (List ℕ × Role)
entry_marks None = []
entry_marks (Some e) = (section_word (section_of e), roles.Member) ∷ flat_map terminal_marks (terminals_of e)

-- the names that a statement has to do with, and how
abbrev pub marks_of : Record → List (List ℕ × Role)
marks_of r = option_to_list (own_mark r) ++ entry_marks (entry_of r)
