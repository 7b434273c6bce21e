-- The pins of a net alone, without what its entries draw, and without a word of whether it is of power.
use Rattle.std.specs.Prelude.{false, filter}
use Rattle.connection_rules.specs.NetParts.{Net, Part}

abbrev pub pins_alone : Net → Net
pins_alone n = record { name = n.name; is_power = false; parts = filter (λ (p : Part). p.is_pin) n.parts }
