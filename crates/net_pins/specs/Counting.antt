-- Pins that are put behind the parts of the last net, each once.
use Rattle.std.specs.Prelude.{List, [], ◌∷◌, ◌++◌, if◌then◌else◌}
use Rattle.statement_model.specs.Grammar.{Key}
use Rattle.statement_model.specs.Reading.{is_among}
use Rattle.connection_rules.specs.NetParts.{Net, Part, pin_part}
use Rattle.connection_rules.specs.Terminals.{NetPin}
use Rattle.net_lists.specs.Building.{with_parts}

-- the part that a pin is, where it counts
abbrev pub counted : NetPin → List Part
counted p = if p.counts then pin_part p ∷ [] else []

-- the words of the pins that were seen, and the nets
abbrev pub State : Type 0
State = List Key × List Net

-- after one more pin: one that was seen changes nothing, and one that doesn't count is seen too
abbrev pub with_pin : NetPin → State → State
with_pin p s = if is_among s.0 p.words then s else (s.0 ++ p.words ∷ [], with_parts (counted p) s.1)

abbrev pub with_pins : List NetPin → State → State
with_pins [] s = s
with_pins (p ∷ ps) s = with_pins ps (with_pin p s)
