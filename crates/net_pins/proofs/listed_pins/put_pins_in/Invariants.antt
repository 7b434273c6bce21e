use Rattle.std.proofs.Common.{drop}
use Rattle.std.specs.List.{filter_map}
use Rattle.def_grammar.specs.Records.{component_of}
use Rattle.connection_rules.specs.Terminals.{pin_of_component}
use Rattle.def_reader.specs.StatementViews.{records_view}
use Rattle.design_wires.specs.Scales.{units_of}
use Rattle.net_pins.proofs.UnseenLemmas.{PutsNew}
use Rattle.net_pins.proofs.listed_pins.put_pins_in.Given as goal

abbrev pub invariant-loop-statement : goal.invariant-loop-statement
invariant-loop-statement g l =
    PutsNew l.of.library.now (units_of l.of.scale) l.pin (filter_map (pin_of_component l.of.library.now (units_of l.of.scale) l.pin) (filter_map component_of (records_view l.records))) l.initial.walk.seen l.initial.nets
    l.are_new (records_view (drop l.statement-index l.records)) l.walk l.nets
