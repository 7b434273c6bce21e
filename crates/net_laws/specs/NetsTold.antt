-- What a net of a design is told by: its entries, the components that these list, the pins of the design that these list or that name
-- it, and what all nets may be made of.
use Rattle.std.specs.Prelude.{◌≡◌, ℕ, Bool, true, false, ◌&&◌, ◌||◌, List, [], filter, flat_map, Option, Some, None}
use Rattle.std.specs.List.{AllByRecursion, filter_map, list_any}
use Rattle.std.specs.Str.{bytes_eq}
use Rattle.form_meanings.specs.Firsts.{first_of}
use Rattle.def_grammar.specs.Nets.{is_net}
use Rattle.def_grammar.specs.Pins.{Pin, net_of_clause}
use Rattle.def_grammar.specs.Records as records
use Rattle.def_grammar.specs.Records.{Record, component_of, entry, top}
use Rattle.def_grammar.specs.Terminals.{Terminal, is_of_all, is_of_design}
use Rattle.def_grammar.specs.Top.{units}
use Rattle.lef_grammar.specs.Library.{Library}
use Rattle.entry_rules.specs.Unknown.{component_named, is_same}
use Rattle.connection_rules.specs.NetParts.{net_named}

-- a statement of what any net may be made of: UNITS, a via, or a nondefault rule
abbrev pub is_common : Record → Bool
is_common (top (units n)) = true
is_common (entry (records.via v)) = true
is_common (entry (records.rule r)) = true
is_common _ = false

-- an entry of NETS, but for one of MUSTJOIN, or of SPECIALNETS, with this name
abbrev pub is_of_net : List ℕ → Record → Bool
is_of_net name (entry (records.net (is_net n))) = bytes_eq n.name name
is_of_net name (entry (records.special_net n)) = bytes_eq n.name name
is_of_net name _ = false

-- the net that a statement is an entry of
abbrev pub net_of_record : Record → Option (List ℕ)
net_of_record (entry (records.net (is_net n))) = Some n.name
net_of_record (entry (records.special_net n)) = Some n.name
net_of_record _ = None

-- the terminals that it lists
abbrev pub terminals_of : Record → List Terminal
terminals_of (entry (records.net (is_net n))) = n.terminals
terminals_of (entry (records.special_net n)) = n.terminals
terminals_of _ = []

abbrev pub terminals_in : List Record → List ℕ → List Terminal
terminals_in design name = flat_map terminals_of (filter (is_of_net name) design)

-- a terminal lists the pin of the design of a name
abbrev pub lists_pin : List ℕ → Terminal → Bool
lists_pin pin t = is_of_design t && bytes_eq t.pin pin

-- a pin of the design is of a net that it names by its NET, and of one that lists it by one of these terminals
abbrev pub is_named_or_listed : List ℕ → List Terminal → Pin → Bool
is_named_or_listed net listed p = is_same net (first_of net_of_clause p.clauses) || list_any (lists_pin p.name) listed

-- a statement is such a pin
abbrev pub is_pin_of_net : List ℕ → List Terminal → Record → Bool
is_pin_of_net net listed (entry (records.pin p)) = is_named_or_listed net listed p
is_pin_of_net net listed _ = false

-- the pins of the design that are of a net, in the order of the text
abbrev pub pins_of_net : List Record → List ℕ → List Record
pins_of_net design name = filter (is_pin_of_net name (terminals_in design name)) design

-- a terminal finds the same components in two designs: the one that it names, or all
pub record FindsAlike (a b : List Record) (t : Terminal) : Type 0 where
  pub named : component_named a t.owner ≡ component_named b t.owner
  pub all : is_of_all t ≡ true → filter_map component_of a ≡ filter_map component_of b

-- two designs agree on what tells a net
pub record AgreeOnNet (a b : List Record) (name : List ℕ) : Type 0 where
  pub common : filter is_common a ≡ filter is_common b
  pub entries : filter (is_of_net name) a ≡ filter (is_of_net name) b
  pub pins : pins_of_net a name ≡ pins_of_net b name
  pub components : AllByRecursion (FindsAlike a b) (terminals_in a name)

-- Then the net is the same in both.
abbrev pub NetsAreTold : Type 0
NetsAreTold = (library : Library) (a b : List Record) (u : ℕ) (name : List ℕ) → AgreeOnNet a b name → net_named library a u name ≡ net_named library b u name
