-- The components that the entries of a net list.
use Rattle.std.specs.Prelude.{◌≡◌, ℕ, false, List, ◌++◌, flat_map}
use Rattle.std.specs.List.{list_any}
use Rattle.std.specs.Option.{option_map, option_to_list}
use Rattle.def_grammar.specs.Components.{Component}
use Rattle.def_grammar.specs.Records.{Record, component, entry}
use Rattle.def_grammar.specs.Terminals.{Terminal, is_of_all}
use Rattle.entry_rules.specs.Unknown.{component_named}
use Rattle.net_laws.specs.NetsTold.{terminals_of}

-- the statement that says a component
abbrev pub as_record : Component → Record
as_record c = entry (component c)

-- that of the component of a name, if there is one
abbrev pub statement_of : List Record → List ℕ → List Record
statement_of design name = option_to_list (option_map as_record (component_named design name))

-- those of the components whose pins are listed, one for each pin
abbrev pub owner_in : List Record → Terminal → List Record
owner_in design t = statement_of design t.owner

abbrev pub owners_in : List Record → List Terminal → List Record
owners_in design ts = flat_map (owner_in design) ts

-- no pin of all components is listed, and those whose pins are listed stand behind other statements
pub record HasOwners (design : List Record) (ts : List Terminal) (old new : List Record) : Type 0 where
  pub named : list_any is_of_all ts ≡ false
  pub new_is : new ≡ old ++ owners_in design ts

-- the same of the terminals of some entries, which stand behind these
pub record HasEntries (design es : List Record) (old new : List Record) : Type 0 where
  pub named : list_any is_of_all (flat_map terminals_of es) ≡ false
  pub new_is : new ≡ (old ++ owners_in design (flat_map terminals_of es)) ++ es
