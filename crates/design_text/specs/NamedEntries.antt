-- The entry of a section and a name, among all entries of a text that reads.
use Rattle.std.specs.Prelude.{◌≡◌, ℕ, List, filter, Ok}
use Rattle.std.specs.Option.{option_map, option_to_list}
use Rattle.design_model.specs.declared.mode.Section.{Section}
use Rattle.def_grammar.specs.Located.{entry_at, is_entry, located}
use Rattle.def_grammar.specs.Records.{Record, entry_of, read_def}

-- It is the only one: the entries of a section that have a name are the one that is found, or none.
abbrev pub NamedOnce : Type 0
NamedOnce = (text : List ℕ) (design : List Record) → read_def text ≡ Ok design → (s : Section) (name : List ℕ)
    → filter (λ r. is_entry s name (entry_of r)) design ≡ option_to_list (option_map (λ x. x.1) (entry_at s name (located text design)))
