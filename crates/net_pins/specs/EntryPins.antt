-- The terminals of entries, and pins of the design by the net that they name.
use Rattle.std.specs.Prelude.{ℕ, Bool, List, [], filter, Option, Some, None, is_some}
use Rattle.std.specs.List.{filter_map}
use denote.Ref.{Bor}
use Rattle.form_meanings.specs.Firsts.{first_of}
use Rattle.form_meanings.specs.Words.{◌>>=◌}
use Rattle.def_grammar.specs.Nets.{is_net}
use Rattle.def_grammar.specs.Pins.{Pin, net_of_clause}
use Rattle.def_grammar.specs.Records.{Entry, Record, component_of, entry_of, net, pin, special_net}
use Rattle.def_grammar.specs.Terminals.{Terminal}
use Rattle.lef_grammar.specs.Library.{Library}
use Rattle.connection_rules.specs.Terminals.{NetPin, PinsByName, design_pin, pin_of_component, pins_by_name}
use Rattle.name_groups.specs.Groups.{Group, grouped}
use Rattle.place_parts.specs.PinViews.{pin_view}
use Rattle.place_parts.specs.declared.pins.PinParts.{PinParts}
use Rattle.design_wires.specs.Scales.{units_of}
use Rattle.net_pins.specs.declared.lent_pin.LentPin.{LentPin}
use Rattle.net_pins.specs.declared.sources.Sources.{Sources}

-- the terminals that an entry lists
abbrev pub listed : Entry → List Terminal
listed (net (is_net n)) = n.terminals
listed (special_net n) = n.terminals
listed _ = []

abbrev pub pins_in : {A : Type 0} → Sources A → PinsByName
pins_in s = pins_by_name s.library.now s.names.now (units_of s.scale)

abbrev pub design_pin_of : {A : Type 0} → Sources A → Pin → NetPin
design_pin_of s p = design_pin s.library.now s.names.now (units_of s.scale) p

abbrev pub pin_of_entry : Entry → Option Pin
pin_of_entry (pin p) = Some p
pin_of_entry _ = None

abbrev pub borrowed_pin : Bor PinParts → Pin
borrowed_pin p = pin_view p.now

abbrev pub lent_pin : LentPin → Pin
lent_pin p = borrowed_pin p.pin

-- the net of a pin's first NET
abbrev pub net_of : Pin → Option (List ℕ)
net_of p = first_of net_of_clause p.clauses

abbrev pub or_no_name : Option (List ℕ) → List ℕ
or_no_name None = []
or_no_name (Some name) = name

-- the name of that net, and none where the pin names no net
abbrev pub net_name : Pin → List ℕ
net_name p = or_no_name (net_of p)

abbrev pub names_some : Pin → Bool
names_some p = is_some (net_of p)

-- the pin of the design that a record is
abbrev pub design_pin_in : Record → Option Pin
design_pin_in r = entry_of r >>= pin_of_entry

-- the pins of a design
abbrev pub all_pins : List Record → List Pin
all_pins design = filter_map design_pin_in design

-- the pin of a name of the component that a record is
abbrev pub pin_of_record : Library → ℕ → List ℕ → Record → Option NetPin
pin_of_record library u name r = component_of r >>= pin_of_component library u name

-- those that name a net, by that net
abbrev pub net_groups : List Record → List (Group Pin)
net_groups design = grouped net_name (filter names_some (all_pins design))
