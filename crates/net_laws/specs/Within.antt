-- Statements of some nets, and of a component or a pin of the design that no other net lists: what an edit exchanges.
use Rattle.std.specs.Prelude.{◌≡◌, ℕ, Bool, true, false, not, ◌&&◌, List, ◌++◌, Option, Some, None}
use Rattle.std.specs.List.{list_any}
use Rattle.std.specs.Str.{bytes_eq}
use Rattle.form_meanings.specs.Firsts.{first_of}
use Rattle.def_grammar.specs.Nets.{is_net}
use Rattle.def_grammar.specs.Pins.{net_of_clause}
use Rattle.def_grammar.specs.Records as records
use Rattle.def_grammar.specs.Records.{Record, entry}
use Rattle.def_grammar.specs.Terminals.{Terminal}
use Rattle.entry_rules.specs.Unknown.{is_same}
use Rattle.net_laws.specs.NetChanges.{AgreeApart, is_one_of}
use Rattle.net_laws.specs.NetExchanges.{finds}
use Rattle.net_laws.specs.NetsTold.{is_common, lists_pin, terminals_in}

-- what an edit is of beside nets, and nets list: a component or a pin of the design, by its name, or neither
pub data Listed : Type 0 where
  a_component : List ℕ → Listed
  a_pin : List ℕ → Listed
  neither : Listed

-- the component that it is, if it is one, and the pin
abbrev pub component_in : Listed → Option (List ℕ)
component_in (a_component c) = Some c
component_in _ = None

abbrev pub pin_in : Listed → Option (List ℕ)
pin_in (a_pin p) = Some p
pin_in _ = None

-- a name is that of a component, if there is one
abbrev pub is_component : Option (List ℕ) → List ℕ → Bool
is_component None name = false
is_component (Some c) name = bytes_eq c name

-- the net that is named is one of these, if one is
abbrev pub is_none_or_one_of : List (List ℕ) → Option (List ℕ) → Bool
is_none_or_one_of nets None = true
is_none_or_one_of nets (Some net) = is_one_of nets net

-- a statement is an entry of one of these nets, or that component, or that pin and names none but these, or one that no net is made of
abbrev pub is_within : List (List ℕ) → Listed → Record → Bool
is_within nets listed (entry (records.component c)) = is_component (component_in listed) c.name
is_within nets listed (entry (records.pin p)) = is_same p.name (pin_in listed) && is_none_or_one_of nets (first_of net_of_clause p.clauses)
is_within nets listed (entry (records.net (is_net n))) = is_one_of nets n.name
is_within nets listed (entry (records.special_net n)) = is_one_of nets n.name
is_within nets listed r = not (is_common r)

abbrev pub finds_it : Listed → Terminal → Bool
finds_it (a_component c) t = finds c t
finds_it (a_pin p) t = lists_pin p t
finds_it neither t = false

-- no other net lists that component or pin
abbrev pub NoOtherLists : List Record → List (List ℕ) → Listed → Type 0
NoOtherLists design nets listed = (net : List ℕ) → is_one_of nets net ≡ false → list_any (finds_it listed) (terminals_in design net) ≡ false

abbrev pub AreWithin : List (List ℕ) → Listed → List Record → Type 0
AreWithin nets listed some = list_any (λ r. not (is_within nets listed r)) some ≡ false

-- Where such statements are exchanged, designs agree apart from these nets, and still no other lists the component or the pin.
abbrev pub WithinApart : Type 0
WithinApart = (front out put behind : List Record) (nets : List (List ℕ)) (listed : Listed) → let old = front ++ (out ++ behind) in let new = front ++ (put ++ behind) in
    NoOtherLists old nets listed → AreWithin nets listed out → AreWithin nets listed put
    → AgreeApart old new (is_one_of nets) × NoOtherLists new nets listed
