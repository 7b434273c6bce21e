-- What others see of statements, where an edit changes sections; and the entries that list the component that it is of.
use Rattle.std.specs.Prelude.{◌≡◌, ◌&&◌, ℕ, Bool, true, false, not, List, [], Option, Some, None, codes, filter, map}
use Rattle.form_meanings.specs.Words.{is_word}
use Rattle.def_grammar.specs.Parts.{is_some}
use Rattle.def_grammar.specs.Records as records
use Rattle.def_grammar.specs.Records.{Entry, Record, entry, entry_of, name_of}
use Rattle.def_reader.specs.StatementViews.{record_view}
use Rattle.def_reader.specs.declared.statement.Statement.{Statement}
use Rattle.agreement_laws.specs.Agreement.{Shown, all_shown, shown_but}
use Rattle.entry_rules.specs.Unknown.{is_same}
use Rattle.design_tables.specs.Lookups.{is_of, lists}

-- what others see of entries, but for the components of a name, if some are left out
abbrev pub seen_but : Option (List ℕ) → List Record → List Shown
seen_but None design = all_shown design
seen_but (Some component) design = shown_but component design

-- the entries of nets that list a component
abbrev pub listing : List ℕ → List Record → List Record
listing component design = filter (lists (is_of component)) design

-- those that list the component which is told of, if one is
abbrev pub listing_one : Option (List ℕ) → List Record → List Record
listing_one None design = []
listing_one (Some component) design = listing component design

-- the word that a pin of the design has before it is no name of a component
abbrev pub IsNoPin : List ℕ → Type 0
IsNoPin component = is_word (codes "PIN") component ≡ false

abbrev pub IsNoPinName : Option (List ℕ) → Type 0
IsNoPinName None = Unit {0}
IsNoPinName (Some component) = IsNoPin component

-- Statements show the same as others but for that component, and the entries that list it are the same.
pub record ShowAllBut (component : Option (List ℕ)) (old new : List Record) : Type 0 where
  pub seen : seen_but component old ≡ seen_but component new
  pub listing : listing_one component old ≡ listing_one component new

-- an entry of a net, which alone can list a component
abbrev pub is_of_net : Record → Bool
is_of_net (entry (records.net n)) = true
is_of_net (entry (records.special_net n)) = true
is_of_net _ = false

abbrev pub is_component : Entry → Bool
is_component (records.component c) = true
is_component _ = false

-- others see an entry that has a name, but for a component of the name that is left out
abbrev pub is_seen : Option (List ℕ) → Entry → Bool
is_seen None e = is_some (name_of e)
is_seen (Some name) e = is_some (name_of e) && not (is_component e && is_same name (name_of e))

abbrev pub is_seen_entry : Option (List ℕ) → Option Entry → Bool
is_seen_entry name None = false
is_seen_entry name (Some e) = is_seen name e

abbrev pub is_seen_record : Option (List ℕ) → Record → Bool
is_seen_record name r = is_seen_entry name (entry_of r)

-- what statements say that pass a test
abbrev pub passing : (Record → Bool) → List Statement → List Record
passing test xs = filter test (map record_view xs)
