-- Which nets of a design list a component, or a pin of the design.
use Rattle.std.specs.Prelude.{◌≡◌, ℕ, Bool, true, false, not, ◌&&◌, ◌||◌, List, [], ◌∷◌, Option, None}
use Rattle.std.specs.List.{list_any}
use Rattle.std.specs.Str.{bytes_eq}
use Rattle.form_meanings.specs.Firsts.{first_of}
use Rattle.def_grammar.specs.Pins.{net_of_clause}
use Rattle.def_grammar.specs.Records as records
use Rattle.def_grammar.specs.Records.{Record, entry}
use Rattle.def_grammar.specs.Terminals.{Terminal, is_of_all, is_of_design, is_virtual}
use Rattle.entry_rules.specs.Unknown.{is_same}
use Rattle.net_laws.specs.NetChanges.{is_one_of}
use Rattle.net_laws.specs.NetExchanges.{finds}
use Rattle.net_laws.specs.NetsTold.{lists_pin, terminals_in}

-- a pin of the component of this name
abbrev pub is_pin_of : List ℕ → Terminal → Bool
is_pin_of name t = not (is_of_all t || is_virtual t || is_of_design t) && bytes_eq t.owner name

-- nets are all that list a pin of a component by its name
abbrev pub AreListing : List Record → List ℕ → List (List ℕ) → Type 0
AreListing design component nets = (net : List ℕ) → is_one_of nets net ≡ false → list_any (is_pin_of component) (terminals_in design net) ≡ false

-- all nets of these names list a pin of a component, by its name or with those of all
abbrev pub AllList : List Record → List ℕ → List (List ℕ) → Type 0
AllList design component nets = (net : List ℕ) → is_one_of nets net ≡ true → list_any (finds component) (terminals_in design net) ≡ true

-- nets are all that list a pin of the design
abbrev pub AreListingPin : List Record → List ℕ → List (List ℕ) → Type 0
AreListingPin design pin nets = (net : List ℕ) → is_one_of nets net ≡ false → list_any (lists_pin pin) (terminals_in design net) ≡ false

-- a statement is the pin of the design of a name, and names a net
abbrev pub is_pin_naming : List ℕ → List ℕ → Record → Bool
is_pin_naming name named (entry (records.pin p)) = bytes_eq p.name name && is_same named (first_of net_of_clause p.clauses)
is_pin_naming name named _ = false

-- the net that a statement names, if it is a pin of the design that names one
abbrev pub net_named_by : Record → Option (List ℕ)
net_named_by (entry (records.pin p)) = first_of net_of_clause p.clauses
net_named_by _ = None

-- a net lists the pin of the design of a name, or is named by it
abbrev pub is_of_pin : List Record → List ℕ → List ℕ → Bool
is_of_pin design pin net = list_any (lists_pin pin) (terminals_in design net) || list_any (is_pin_naming pin net) design

-- all nets of these names do
abbrev pub AllOfPin : List Record → List ℕ → List (List ℕ) → Type 0
AllOfPin design pin nets = (net : List ℕ) → is_one_of nets net ≡ true → is_of_pin design pin net ≡ true

-- no name stands twice
abbrev pub AreApart : List (List ℕ) → Type 0
AreApart [] = Unit {0}
AreApart (n ∷ ns) = (is_one_of ns n ≡ false) × AreApart ns
