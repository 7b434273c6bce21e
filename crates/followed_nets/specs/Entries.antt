-- The entries of a net in a text, of which it may have one in NETS and one in SPECIALNETS.
use Rattle.std.specs.Prelude.{◌≤◌, List, ◌∷◌, Option, Some}
use Rattle.std.specs.Option.{option_map, option_to_list}
use Rattle.statement_model.specs.Reading.{pos_of}
use Rattle.statement_model.specs.Tokens.{Token}
use Rattle.def_grammar.specs.Records.{Record}
use Rattle.def_reader.specs.StatementViews.{record_view}
use Rattle.def_reader.specs.declared.statement.Statement.{Statement}
use Rattle.followed_nets.specs.declared.entries.NetEntries.{NetEntries}

-- where two statements are found, the first one begins no later than the other
abbrev pub Precedes : Option (List Token × Record) → Option (List Token × Record) → Type 0
Precedes (Some a) (Some b) = pos_of a.0 ≤ pos_of b.0
Precedes _ _ = Unit {0}

-- what a statement says, if there is one
abbrev pub said_by : Option Statement → List Record
said_by found = option_to_list (option_map record_view found)

abbrev pub entries_view : NetEntries → List Record
entries_view e = record_view e.first ∷ said_by e.second
