-- Tables of entries, by the words of their sections and their names.
use Rattle.std.specs.Prelude.{◌≡◌, ℕ, Bool, ◌&&◌, List, [], ◌∷◌, Option}
use Rattle.std.specs.Map.{lookup}
use Rattle.std.specs.Option.{option_map, option_or}
use Rattle.std.specs.Str.{bytes_eq}
use Rattle.design_model.specs.declared.mode.Section.{Section}
use Rattle.design_model.specs.EnumWords.{section_word}
use Rattle.def_grammar.specs.Records.{Entry, Record, entry}
use Rattle.entry_rules.specs.EntryNames.{entry_named}
use Rattle.name_keys.specs.declared.entry_name.EntryName.{EntryName}

abbrev pub is_key : List ℕ → List ℕ → EntryName → Bool
is_key word name key = bytes_eq word key.word.now && bytes_eq name key.name.now

module _ {E : Type 0} (view : E → Entry) where
  -- what stands under a section and a name
  abbrev pub found : List (EntryName × E) → Section → List ℕ → Option Entry
  found table s name = option_map view (lookup (is_key (section_word s) name) table)

  -- a table has the first entry of each name
  pub record HasFirsts (table : List (EntryName × E)) (design : List Record) : Type 0 where
    pub first : (s : Section) (name : List ℕ) → found table s name ≡ entry_named design s name

  -- an entry was added, unless its name was taken
  pub record Adds (old new : List (EntryName × E)) (e : Entry) : Type 0 where
    pub first : (s : Section) (name : List ℕ) → found new s name ≡ option_or (found old s name) (entry_named (entry e ∷ []) s name)
