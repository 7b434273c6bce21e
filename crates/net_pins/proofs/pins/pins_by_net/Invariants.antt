use Rattle.std.proofs.Common.{◌≡◌, map, take}
use Rattle.def_reader.specs.StatementViews.{records_view}
use Rattle.name_groups.specs.Groups.{seen}
use Rattle.net_pins.specs.EntryPins.{lent_pin, net_groups}
use Rattle.net_pins.proofs.pins.pins_by_net.Given as goal

abbrev pub invariant-loop-statement : goal.invariant-loop-statement
invariant-loop-statement g l = map (seen lent_pin) l.pins ≡ net_groups (records_view (take l.statement-index l.records))
