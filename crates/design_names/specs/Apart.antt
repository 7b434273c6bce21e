-- Entries whose names stand once in their sections.
use Rattle.std.specs.Prelude.{◌≡◌, ℕ, Bool, true, false, not, ◌&&◌, List, [], ◌∷◌, Option, Some, None, is_some}
use Rattle.std.specs.List.{filter_map, list_any}
use Rattle.design_model.specs.declared.mode.Section.{Section}
use Rattle.def_grammar.specs.Records.{Entry, Record, entry_of, name_of, section_of}
use Rattle.entry_rules.specs.Unknown.{is_in}
use Rattle.name_keys.specs.declared.entry_name.EntryName.{EntryName}
use Rattle.design_names.specs.Tables.{HasFirsts, found}

-- whether one of some entries has this name in this section
abbrev pub stands_among : List Entry → Section → Option (List ℕ) → Bool
stands_among es s None = false
stands_among es s (Some name) = list_any (is_in s name) es

-- no entry has the section and the name of a later one
abbrev pub are_apart : List Entry → Bool
are_apart [] = true
are_apart (e ∷ es) = not (stands_among es (section_of e) (name_of e)) && are_apart es

module _ {E : Type 0} (view : E → Entry) where
  abbrev pub is_found : List (EntryName × E) → Section → Option (List ℕ) → Bool
  is_found table s None = false
  is_found table s (Some name) = is_some (found view table s name)

  -- whether a table has an entry's name in its section
  abbrev pub is_known : List (EntryName × E) → Entry → Bool
  is_known table e = is_found table (section_of e) (name_of e)

  -- a table has the first entry of each name, and a flag says whether there is no second one of any
  pub record IsIndex (table : List (EntryName × E)) (apart : Bool) (design : List Record) : Type 0 where
    pub firsts : HasFirsts view table design
    pub is_apart : apart ≡ are_apart (filter_map entry_of design)
