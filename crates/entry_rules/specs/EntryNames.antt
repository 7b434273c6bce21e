-- Entries by their names (own).
use Rattle.std.specs.Prelude.{ℕ, List, Option}
use Rattle.std.specs.List.{filter_map, find}
use Rattle.design_model.specs.declared.mode.Section.{Section}
use Rattle.def_grammar.specs.Records.{Entry, Record, entry_of}
use Rattle.entry_rules.specs.Unknown.{is_in}

-- the first entry of a section that has this name
abbrev pub entry_named : List Record → Section → List ℕ → Option Entry
entry_named design s name = find (is_in s name) (filter_map entry_of design)
